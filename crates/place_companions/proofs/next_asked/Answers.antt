-- `place_companions::next_asked` meets its contract.
use mathlib.Core.Path.{refl, sym}
use Rattle.std.proofs.Common.{◌≡◌, ℕ, Bool, ◌+◌, true}
use mathlib.Core.Logic.{⊎_elim}
use Rattle.scheduler.specs.Shares.{next_asked}
use Rattle.scheduler.specs.Laws.Asking.{next-stays, next-moved}
use Rattle.place_companions.proofs.next_asked.Goals as goal

first-next : (i : ℕ) (stays : Bool) → i ≡ 0 → i + 1 ≡ next_asked i stays
unfolding next_asked
first-next i stays z = rw z refl

pub returns-then-stays : goal.returns-then-stays
returns-then-stays c =
    ⊎_elim
    (λ (z : c.args.i ≡ 0). first-next c.args.i c.args.stays z)
    (λ (z : (c.args.i ≡ 0 → ⊥) × (c.args.stays ≡ true)). rw z.1 (sym (next-stays c.args.i)))
    c.if-stays.either

pub returns-else-stays : goal.returns-else-stays
returns-else-stays c = rw c.if-stays.false.1 (sym (next-moved _ c.if-stays.false.0))
