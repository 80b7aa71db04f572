-- Whether a number is on the board, over plain values.
use borrow.Author.Tests.{le-leb, lt-leb}
use mathlib.Core.Bool.{true, false, ◌&&◌}
use mathlib.Core.List.{List}
use mathlib.Core.Logic.{⊎_elim}
use mathlib.Core.Path.{◌≡◌, refl, sym}
use Prim.Native.Nat.{ℕ, ◌≤◌, ◌<◌}
use native.Mathlib.Omega.{arith}
use lib.Dec.{leb, ltb}
use lib.ListN.{get_or}
use Rattle.cells.specs.Laws.Basics.{lt-or-ge, not-both}
use Rattle.board.specs.Places.{Known}
use Rattle.calendar.specs.Search.{is_at}
use Rattle.board.specs.Resources.{on_board}
use Rattle.board.specs.Valid.{valid}
use Rattle.board.specs.declared.Board.{Board}
use Rattle.board.specs.Laws.Facts.{rules_of, off-above}
use Rattle.board.specs.Laws.Seeing.{place-on}

off : (b : Board) (n : ℕ) → valid b ≡ true → 16 ≤ n → on_board b n ≡ false
unfolding is_at
off b n v l = rw (off-above b n v (omega arith)) refl

-- whether a number is on the board, by the table
pub on-is : (b : Board) (n : ℕ) (places : List ℕ) → valid b ≡ true → Known b places
    → leb n 15 && ltb (get_or places n 0) 16 ≡ on_board b n
on-is b n places v s =
    ⊎_elim
    (λ (l : n < 16). rw (le-leb n 15 (omega arith), s n l) (place-on b b.len n (rules_of b v).few))
    (λ (l : 16 ≤ n). rw (lt-leb n 15 (omega arith)) (sym (off b n v l)))
    (lt-or-ge n 16)

-- a number on a board that keeps the rules is at most 15
pub on-small : (b : Board) (n : ℕ) → valid b ≡ true → on_board b n ≡ true → n ≤ 15
on-small b n v e =
    ⊎_elim
    (λ (l : n < 16). omega arith)
    (λ (l : 16 ≤ n). absurd (not-both (on_board b n) e (off b n v l)))
    (lt-or-ge n 16)
