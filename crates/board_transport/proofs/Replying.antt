-- The replies of a transport's entry, over plain values: each refusal in its order, and what an accepted one says.
use borrow.Author.Tests.{not-false, ltb-false, lt-ltb, le-ltb}
use mathlib.Core.Bool.{true, false, not, ◌&&◌, and-false}
use mathlib.Core.Path.{◌≡◌, refl}
use Prim.Native.Nat.{ℕ, ◌^◌, ◌≤◌, ◌<◌}
use lib.Dec.{ltb}
use Rattle.cells.specs.Laws.Basics.{and_split, unrefused}
use Rattle.board.specs.Enter.{transport_refusal}
use Rattle.board.specs.Resources.{on_board}
use Rattle.board.specs.Valid.{valid}
use Rattle.board.specs.declared.Board.{Board}
use Rattle.board_numbers.proofs.Standing.{on-small}

-- a transport
module _ (b : Board) (from to ms : ℕ) where
  pub transport-15 : valid b ≡ false → 15 ≡ transport_refusal b from to ms
  unfolding transport_refusal
  transport-15 v = rw v refl

  pub transport-from : valid b ≡ true → on_board b from ≡ false → 5 ≡ transport_refusal b from to ms
  unfolding transport_refusal
  transport-from v e = rw (v, e) refl

  pub transport-to : valid b ≡ true → on_board b to ≡ false → 5 ≡ transport_refusal b from to ms
  unfolding transport_refusal
  transport-to v e = rw (v, e, and-false (on_board b from)) refl

  pub transport-1 : valid b ≡ true → on_board b from ≡ true → on_board b to ≡ true → 2 ^ 36 < ms → 1 ≡ transport_refusal b from to ms
  unfolding transport_refusal
  transport-1 v e f l = rw (v, e, f, lt-ltb (2 ^ 36) ms l) refl

  pub transport-0 : valid b ≡ true → on_board b from ≡ true → on_board b to ≡ true → ms ≤ 2 ^ 36 → 0 ≡ transport_refusal b from to ms
  unfolding transport_refusal
  transport-0 v e f l = rw (v, e, f, le-ltb (2 ^ 36) ms l) refl

-- a transport that is taken
pub transport-taken : (b : Board) (from to ms : ℕ) → transport_refusal b from to ms ≡ 0
    → (valid b ≡ true) × (on_board b from ≡ true) × (on_board b to ≡ true) × (ms ≤ 2 ^ 36)
unfolding transport_refusal
transport-taken b from to ms e =
    let x0 = unrefused (not (valid b)) 14 _ e in
    let x1 = unrefused (not (on_board b from && on_board b to)) 4 _ x0.1 in
    let x2 = unrefused (ltb (2 ^ 36) ms) 0 0 x1.1 in
    let f = and_split (on_board b from) (on_board b to) (not-false _ x1.0) in
    (not-false _ x0.0, f.0, f.1, ltb-false (2 ^ 36) ms x2.0)

pub transport-places : (b : Board) (from to ms : ℕ) → transport_refusal b from to ms ≡ 0 → (from ≤ 15) × (to ≤ 15)
transport-places b from to ms e =
    let f = transport-taken b from to ms e in
    (on-small b from f.0 f.1, on-small b to f.0 f.2)
