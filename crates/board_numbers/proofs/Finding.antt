-- How the resource that an entry names is told, over plain values.
use mathlib.Core.Bool.{Bool, true, false, not, cond, ◌&&◌}
use mathlib.Core.Path.{◌≡◌, refl, ap, ◌∙◌}
use Prim.Native.Nat.{ℕ, ◌<◌}
use native.Mathlib.Omega.{arith}
use Rattle.calendar.specs.Search.{Found, nothing, at, is_at}
use Rattle.board.specs.Resources.{lookup, on_board}
use Rattle.board.specs.Valid.{valid}
use Rattle.board.specs.declared.Board.{Board}
use Rattle.board.specs.Laws.Facts.{rules_of}
use Rattle.board.specs.Laws.Seeing.{lookup-below, nothing-of}
use Rattle.calendar.specs.declared.refusal.Refusal.{Refusal}
use Rattle.calendar.specs.Replies.{number_of as number_of_refusal}
use Rattle.calendar.specs.Laws.Refusals.{numbered}
use Rattle.board_numbers.specs.Entry.{PlaceFor, entry_at, entry_for}

-- 15 and 5 by the board and the number
number_of : (v : Bool) (f : Found) (more : Bool) (rest : ℕ) → (◌≡◌ {A = ℕ} (cond (not v) (record { refusal = 15; place = 0 }) (entry_at f)).refusal 0 → ⊥)
    → ◌≡◌ {A = ℕ} (cond (not v) (record { refusal = 15; place = 0 }) (entry_at f)).refusal (cond (not v) 15 (cond (not (is_at f && more)) 5 rest))
unfolding entry_at is_at
number_of false f more rest h = refl
number_of true nothing more rest h = refl
number_of true (at i) more rest h = absurd (h refl)

found_of : (v : Bool) (f : Found) → ◌≡◌ {A = ℕ} (cond (not v) (record { refusal = 15; place = 0 }) (entry_at f)).refusal 0
    → (v ≡ true) × (f ≡ at (cond (not v) (record { refusal = 15; place = 0 }) (entry_at f)).place)
unfolding entry_at
found_of false f h = absurd (omega arith)
found_of true nothing h = absurd (omega arith)
found_of true (at i) h = (refl, refl)

module _ (b : Board) (number : ℕ) where
  entry-number : (more : Bool) (rest : ℕ) → ((entry_for b number).refusal ≡ 0 → ⊥)
      → (entry_for b number).refusal ≡ cond (not (valid b)) 15 (cond (not (on_board b number && more)) 5 rest)
  unfolding entry_for
  entry-number more rest h = number_of (valid b) (lookup b number) more rest h

  entry_found : (entry_for b number).refusal ≡ 0 → (valid b ≡ true) × (lookup b number ≡ at (entry_for b number).place)
  unfolding entry_for
  entry_found h = found_of (valid b) (lookup b number) h

  pub entry-15 : valid b ≡ false → record { refusal = 15; place = 0 } ≡ entry_for b number
  unfolding entry_for
  entry-15 v = rw v refl

  pub entry-none : valid b ≡ true → on_board b number ≡ false → record { refusal = 5; place = 0 } ≡ entry_for b number
  unfolding entry_for entry_at
  entry-none v o = rw (v, nothing-of (lookup b number) o) refl

  pub entry-some : (i : ℕ) → valid b ≡ true → lookup b number ≡ at i → record { refusal = 0; place = i } ≡ entry_for b number
  unfolding entry_for entry_at
  entry-some i v l = rw (v, l) refl

-- a place that is found is a cell of the array
pub found_below : (b : Board) (number i : ℕ) → valid b ≡ true → lookup b number ≡ at i → i < 16
found_below b number i v e = omega (arith, lookup-below b b.len number i e, (rules_of b v).few)

-- what an entry that is answered by a place says, and one that is refused by name
pub entry_ok : (b : Board) (number i : ℕ) → record { refusal = 0; place = i } ≡ entry_for b number → (valid b ≡ true) × (lookup b number ≡ at i) × (i < 16)
entry_ok b number i q =
    let f = rw (← q) at (entry_found b number) in
    let w = f refl in
    (w.0, w.1, found_below b number i w.0 w.1)

pub entry_err : (b : Board) (number : ℕ) (e : Refusal) → record { refusal = number_of_refusal e; place = 0 } ≡ entry_for b number → (rest : ℕ) (more : Bool)
    → number_of_refusal e ≡ cond (not (valid b)) 15 (cond (not (on_board b number && more)) 5 rest)
entry_err b number e q rest more =
    let p = ap (λ (x : PlaceFor). x.refusal) q in
    p ∙ entry-number b number more rest (λ z. numbered e (p ∙ z))
