-- A number on the board has a place there, and what is known of the places of all numbers.
use Rattle.std.specs.Prelude.{◌≡◌, refl, true, List, ℕ, ◌<◌}
use Rattle.std.proofs.Common.{sym, ◌∙◌, arith}
use Rattle.std.proofs.Math.Path.{ap}
use Rattle.std.proofs.Math.ListN.{get_or}
use Rattle.cells.specs.Laws.Basics.{not-both}
use Rattle.calendar.specs.Search.{Found, nothing, at, is_at}
use Rattle.board.specs.declared.Board.{Board}
use Rattle.board.specs.Resources.{lookup, on_board}
use Rattle.board.specs.Valid.{valid}
use Rattle.board.specs.Theorems.Meaning.{resource-of, lookup-means}
use Rattle.board.specs.Places.{place_of, Known}

-- a number on the board has a place there
pub on-place : (b : Board) (n : ℕ) → on_board b n ≡ true → (i : ℕ) × (lookup b n ≡ at i) × (i < b.len)
unfolding is_at
on-place b n e = go (lookup b n) refl e
  where
    go : (f : Found) → lookup b n ≡ f → is_at f ≡ true → (i : ℕ) × (lookup b n ≡ at i) × (i < b.len)
    go nothing h k = absurd (not-both true refl (sym k))
    go (at i) h k = (i, h, (lookup-means b n i h).0)

-- a place under 16 is the place of the number
place-known : (f : Found) (p : ℕ) → p ≡ place_of f → p < 16 → f ≡ at p
unfolding place_of
place-known nothing p e l = absurd (omega arith)
place-known (at q) p e l = ap at (sym e)

module _ (b : Board) (v : valid b ≡ true) (places : List ℕ) (known : Known b places) (n : ℕ) where
  pub place-of : n < 16 → get_or places n 0 < 16 → lookup b n ≡ at (get_or places n 0)
  place-of l m = place-known (lookup b n) (get_or places n 0) (known n l) m

  -- a number on the board has its place
  pub number-place : on_board b n ≡ true → (n < 16) × (lookup b n ≡ at (get_or places n 0)) × (get_or places n 0 < b.len)
  unfolding place_of
  number-place o =
      let w = on-place b n o in
      let low : n < 16 = omega (arith, (lookup-means b n w.0 w.1).1, (resource-of b v w.0 w.2).number) in
      let z : get_or places n 0 ≡ w.0 = known n low ∙ ap place_of w.1 in
      (low, rw z w.1, rw z w.2)
