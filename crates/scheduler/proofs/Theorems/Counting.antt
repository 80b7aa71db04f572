-- The rounds of choosing end within 2,064 instants, and fewer are left after each round that leads on.
use Rattle.std.specs.Prelude.{◌≡◌, ℕ, ◌≤◌, ◌<◌, length, get_or}
use Rattle.std.proofs.Math.Bool.{true}
use mathlib.Core.List.{List, [], ◌∷◌}
use native.Mathlib.Omega.{arith}
use Rattle.activity.specs.declared.ResourceRequirement.{ResourceRequirement}
use Rattle.activity.specs.declared.Activity.{Activity}
use Rattle.activity.specs.Check.{no_requirement, requirements_of}
use Rattle.board.specs.declared.Board.{Board}
use Rattle.board.specs.Valid as board
use Rattle.scheduler.specs.Choosing.{Held, holds, round, greatest_start, rounds, choosing}
use Rattle.scheduler.specs.Plain.{enough, held_at}
use Rattle.scheduler.specs.Instants.{above, points}
use Rattle.scheduler.specs.Laws.Events.{above-length}
use Rattle.scheduler.proofs.Laws.Chosen.{round-falls, rounds-mean}
use Rattle.scheduler.specs.Laws.Ruled.{points-length}
use Rattle.scheduler.proofs.Laws.Ruled.{all-kept, all_listed}
use Rattle.scheduler.specs.Laws.Counting.{choices-same}

-- Choosing: any number of rounds above 2,064 gives the choice.
pub choosing-rounds : (b : Board) → board.valid b ≡ true → (a : Activity) (ready : ℕ) (q : ResourceRequirement) (qs : List ResourceRequirement)
    → requirements_of a ≡ q ∷ qs → 1 ≤ q.quantity
    → (n : ℕ) → 2064 < n → rounds n b a ready ready ≡ choosing b a ready
unfolding choosing
choosing-rounds b v a ready q qs asks some n h =
    let p = points b a ready in
    let mean = rounds-mean b a ready (all-kept b v a ready) p (all_listed b v a ready) q qs asks some in
    choices-same (enough b a ready (q ∷ qs)) (held_at b a ready (q ∷ qs)) ready (rounds n b a ready ready) (rounds 10000 b a ready ready)
    (mean n (omega (arith, above-length p ready, points-length b v a ready)))
    (mean 10000 (omega (arith, above-length p ready, points-length b v a ready)))

pub instants-fall : (b : Board) → board.valid b ≡ true → (a : Activity) (ready : ℕ) (qs : List ResourceRequirement) → requirements_of a ≡ qs
    → 1 ≤ length qs → ((i : ℕ) → i < length qs → 1 ≤ (get_or qs i no_requirement).quantity)
    → (t : ℕ) (hs : List Held) → round b a ready t qs ≡ holds hs → (greatest_start hs ≡ t → ⊥) → above (points b a ready) (greatest_start hs) < above (points b a ready) t
instants-fall b v a ready [] asks l some t hs e ne = absurd (omega arith)
instants-fall b v a ready (q ∷ qs) asks l some t hs e ne =
    (round-falls b a ready (all-kept b v a ready) (points b a ready) (all_listed b v a ready) q qs asks (some 0 (omega arith)) t hs e ne).1
