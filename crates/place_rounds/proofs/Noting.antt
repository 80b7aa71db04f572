-- The answers: what is kept of them is so, and what was asked from t on is so for each instant up to the start.
use mathlib.Core.Path.{◌≡◌, refl, sym, ap, ◌∙◌}
use mathlib.Core.Bool.{Bool, true, false, ◌&&◌, ◌||◌}
use mathlib.Core.List.{List}
use mathlib.Core.Logic.{⊎_elim}
use Prim.Native.Nat.{ℕ, ◌+◌, ◌*◌, ◌/◌, ◌%◌, ◌≤◌, ◌<◌}
use native.Mathlib.Omega.{arith}
use lib.ListN.{get_or, set, replicate, length-set, get_or-replicate}
use lib.Seq.{get_or-set_same, get_or-set_other}
use borrow.Author.Tests.{ltb-false, lt-ltb}
use Rattle.cells.specs.Laws.Basics.{not-both, same_or_not}
use Rattle.calendar.specs.Search.{Found}
use Rattle.activity.specs.declared.Activity.{Activity}
use Rattle.activity.specs.Check.{activity_refusal}
use Rattle.board.specs.declared.Board.{Board}
use Rattle.board.specs.Valid as board
use Rattle.place_rounds.specs.Tables.{number_of, found_at, requirement_at, start_for, Remembered, to_ask}
use Rattle.place_rounds.proofs.Finding.{found-later}

-- before anything is asked
pub kept-none : (b : Board) (a : Activity) (ready : ℕ) → b.len ≤ 16 → a.len ≤ 4 → Remembered b a ready (replicate 64 1) (replicate 64 0)
kept-none b a ready n m = record {
  asked_long = refl;
  starts_long = refl;
  so = λ j i t k l g h.
      let ones : List ℕ = replicate 64 1 in
      let zeros : List ℕ = replicate 64 0 in
      let one : get_or ones (16 * j + i) 0 ≡ 1 = get_or-replicate 64 (16 * j + i) 1 0 (omega arith) in
      let none : get_or zeros (16 * j + i) 0 ≡ 0 = get_or-replicate 64 (16 * j + i) 0 0 (omega arith) in
      absurd (omega arith);
}

-- the cells in front of cell k are known from t on
abbrev pub Through : Board → Activity → ℕ → ℕ → List ℕ → ℕ → Type 0
Through b a ready t starts k = (j i : ℕ) → j < a.len → i < b.len → 16 * j + i < k → get_or starts (16 * j + i) 0 ≡ start_for b a ready t j i

pub through-start : (b : Board) (a : Activity) (ready t : ℕ) (starts : List ℕ) → Through b a ready t starts 0
through-start b a ready t starts j i m n q = absurd (omega arith)

not-asked : (p q r : Bool) → p && (q || r) ≡ false → p ≡ true → (q ≡ false) × (r ≡ false)
not-asked true false false e f = (refl, refl)
not-asked true false true e f = (refl, e)
not-asked true true r e f = absurd (not-both true refl e)
not-asked false q r e f = absurd (not-both false f refl)

module _ (b : Board) (v : board.valid b ≡ true) (few : b.len ≤ 16) (a : Activity) (ready : ℕ) (w : activity_refusal a ready ≡ 0) (t : ℕ) (asked starts : List ℕ) (kept : Remembered b a ready asked starts) (k : ℕ)
    (there : k < 16 * a.len) (thru : Through b a ready t starts k) where
  -- cell k is that of one requirement and one place
  cell : (x y : ℕ) → y < b.len → 16 * x + y ≡ k → (x ≡ k / 16) × (y ≡ k % 16)
  cell x y n e = (omega arith, omega arith)

  whole : 16 * (k / 16) + k % 16 ≡ k
  whole = omega arith

  -- one cell more
  pub through-next : (xs : List ℕ) → Through b a ready t xs k → (k % 16 < b.len → get_or xs k 0 ≡ start_for b a ready t (k / 16) (k % 16)) → Through b a ready t xs (k + 1)
  through-next xs before here x y m n q =
      ⊎_elim
      (λ (e : k ≡ 16 * x + y). let c = cell x y n (sym e) in rw (← e, c.0, c.1) (here (omega (arith, c.1))))
      (λ (e : 16 * x + y ≡ k → ⊥). before x y m n (omega (arith, e)))
      (same_or_not k (16 * x + y))

  -- nobody is asked
  pub cell-known : to_ask (k % 16) b.len (get_or asked k 0) (get_or starts k 0) t ≡ false → Through b a ready t starts (k + 1)
  cell-known e = through-next starts thru (λ l. let h = not-asked _ _ _ e (lt-ltb _ _ l) in rw whole at (kept.so (k / 16) (k % 16) t (omega arith) l (rw whole (ltb-false _ _ h.0)) (rw whole (ltb-false _ _ h.1))))

  -- the resource is asked
  module _ (room : k < 64) (f : Found) (l : k % 16 < b.len) (e : f ≡ found_at b a ready (requirement_at a (k / 16)) t (k % 16)) where
    abbrev x : ℕ
    x = number_of f

    pub through-asked : Through b a ready t (set starts k x) k
    through-asked y z m n q = get_or-set_other starts k (16 * y + z) x 0 (λ (u : 16 * y + z ≡ k). omega arith) ∙ thru y z m n q

    pub kept-asked : Remembered b a ready (set asked k t) (set starts k x)
    kept-asked = record {
      asked_long = length-set asked k t ∙ kept.asked_long;
      starts_long = length-set starts k x ∙ kept.starts_long;
      so = λ y z u m n o q.
          ⊎_elim
          (λ (s : k ≡ 16 * y + z).
          let c = cell y z n (sym s) in
          let at-asked : get_or (set asked k t) (16 * y + z) 0 ≡ t = rw (← s) (get_or-set_same asked k t 0 (omega (arith, kept.asked_long))) in
          let at-start : get_or (set starts k x) (16 * y + z) 0 ≡ x = rw (← s) (get_or-set_same starts k x 0 (omega (arith, kept.starts_long))) in
          let low : t ≤ u = omega arith in
          let high : u ≤ number_of (found_at b a ready (requirement_at a (k / 16)) t (k % 16)) = omega (arith, ap number_of e) in
          at-start ∙ rw (c.0, c.1) (ap number_of (e ∙ sym (found-later b v a ready w (requirement_at a (k / 16)) (k % 16) l t u low high))))
          (λ (s : 16 * y + z ≡ k → ⊥).
          let same_asked : get_or (set asked k t) (16 * y + z) 0 ≡ get_or asked (16 * y + z) 0 = get_or-set_other asked k (16 * y + z) t 0 s in
          let same_start : get_or (set starts k x) (16 * y + z) 0 ≡ get_or starts (16 * y + z) 0 = get_or-set_other starts k (16 * y + z) x 0 s in
          same_start ∙ kept.so y z u m n (omega arith) (omega arith))
          (same_or_not k (16 * y + z));
    }
