-- The rounds: t becomes the greatest start held, until it stays.
use mathlib.Core.Path.{◌≡◌, refl, sym, ap, ◌∙◌, subst}
use mathlib.Core.Bool.{true, cond}
use mathlib.Core.List.{List, map}
use Prim.Native.Nat.{ℕ, suc, ◌-◌, ◌≤◌, ◌<◌}
use native.Mathlib.Omega.{arith}
use lib.ListN.{get_or, length, take}
use lib.Seq.{get_or-take, length-take-le}
use lib.Dec.{eqb}
use borrow.Author.Tests.{eq-eqb, ne_eqb}
use Rattle.calendar.specs.Limits.{last_asked}
use Rattle.activity.specs.declared.Activity.{Activity}
use Rattle.activity.specs.Check.{requirements_of, activity_refusal}
use Rattle.activity.specs.Laws.Judging.{accepted}
use Rattle.board.specs.declared.Board.{Board}
use Rattle.board.specs.Valid.{valid}
use Rattle.scheduler.specs.declared.Selection.{Selection}
use Rattle.scheduler.specs.Choosing as scheduler
use Rattle.scheduler.specs.Selections.{no_selection, held_of, OnPlaces}
use Rattle.scheduler.specs.Theorems.Counting.{instants-few}
use Rattle.scheduler.proofs.Theorems.Counting.{instants-fall}
use Rattle.cells.specs.Laws.Arrays.{each_at}
use Rattle.cells.specs.Every.{Each}
use Rattle.cells.specs.Laws.Each.{each_weaken, each-in-map}
use Rattle.scheduler.proofs.Laws.Rounds.{greatest-le}
use Rattle.place_rounds.specs.Rounds.{Led, Fewer, Lasting}

pub led-start : (b : Board) → valid b ≡ true → (a : Activity) (ready : ℕ) → Led b a ready ready
unfolding scheduler.choosing
led-start b v a ready = record { left = 10000; more = omega (arith, instants-few b v a ready ready); so = refl }

-- the round at t, and one fewer left
module _ (b : Board) (a : Activity) (ready t : ℕ) (k : Led b a ready t) (r : scheduler.Round) (e : r ≡ scheduler.round b a ready t (requirements_of a)) where
  abbrev rest : ℕ
  rest = k.left - 1

  turn : scheduler.settle t r (scheduler.rounds rest b a ready) ≡ scheduler.choosing b a ready
  unfolding scheduler.rounds
  turn =
      let z : k.left ≡ suc rest = omega (arith, k.more) in
      ap (λ (r : scheduler.Round). scheduler.settle t r (scheduler.rounds rest b a ready)) e ∙ (rw z at k.so)

  -- too few
  pub led-short : r ≡ scheduler.too_few → scheduler.no_choice ≡ scheduler.choosing b a ready
  unfolding scheduler.settle
  led-short f = rw f at turn

  module _ (hs : List scheduler.Held) (f : r ≡ scheduler.holds hs) where
    abbrev next : ℕ
    next = scheduler.greatest_start hs

    held : cond (eqb next t) (scheduler.chosen t hs) (scheduler.rounds rest b a ready next) ≡ scheduler.choosing b a ready
    unfolding scheduler.settle
    held = rw f at turn

    -- t stays
    pub led-stays : next ≡ t → scheduler.chosen t hs ≡ scheduler.choosing b a ready
    led-stays s = rw (eq-eqb next t s) at held

    -- or goes on, and fewer instants are left
    module _ (v : valid b ≡ true) (accept : activity_refusal a ready ≡ 0) (asks : 1 ≤ length (requirements_of a)) (s : next ≡ t → ⊥) where
      pub led-fewer : Fewer b a ready t next
      led-fewer = instants-fall b v a ready (requirements_of a) refl asks (accepted a ready accept).some t hs (sym e ∙ f) s

      pub led_on : Led b a ready next
      led_on = record { left = rest; more = omega (arith, led-fewer, k.more); so = rw (ne_eqb next t s) at held }

-- those held start by 2^43
pub greatest-soon : (b : Board) (hs : List Selection) → Each (Lasting b) hs → scheduler.greatest_start (map (held_of b) hs) ≤ last_asked
unfolding held_of
greatest-soon b hs a = greatest-le last_asked (map (held_of b) hs) (each-in-map (λ h. h.start ≤ last_asked) (held_of b) hs (each_weaken (Lasting b) (λ h. h.start ≤ last_asked) hs (λ h l. l.soon) a))

-- and stand on the board
pub on-places : (b : Board) (hs : List Selection) (n : ℕ) → n ≤ length hs → Each (Lasting b) (take n hs) → OnPlaces b hs n
on-places b hs n m a = record { stands = λ k l. (one k l).stands; some = λ k l. (one k l).some }
  where
    one : (k : ℕ) → k < n → Lasting b (get_or hs k no_selection)
    one k l =
        let e : length (take n hs) ≡ n = length-take-le n hs m in
        subst (Lasting b) (get_or-take n hs k no_selection l) (each_at (Lasting b) no_selection (take n hs) a k (omega arith))
