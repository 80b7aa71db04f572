-- The replies of a matrix's entries, over plain values: each refusal in its order, and what an accepted entry leaves.
use borrow.Author.Tests.{le-leb}
use mathlib.Core.Bool.{Bool, true, false, not, cond, ◌&&◌, and-true, and-false}
use mathlib.Core.Path.{◌≡◌, refl}
use Prim.Native.Nat.{ℕ, ◌≤◌}
use lib.Dec.{leb}
use lib.IntN.{ℤ}
use Rattle.cells.specs.Laws.Basics.{and-join}
use Rattle.calendar.specs.Search.{at, is_at}
use Rattle.board.specs.Enter.{entered, with_resource, changed, matrix_refusal, new_matrix, set_matrix_reply, entry_refusal, matrix_of, with_transition, with_initial, set_transition_reply, set_initial_reply}
use Rattle.board.specs.Resources.{with_matrix, resource_at, lookup, on_board}
use Rattle.board.specs.Valid.{duration_right, entry_right, valid}
use Rattle.board.specs.declared.Board.{Board}
use Rattle.board.specs.declared.TransitionMatrix.{TransitionMatrix}
use Rattle.board.specs.Laws.Replying.{refused_as, taken-by}
use Rattle.board_numbers.proofs.Finding.{entry_err}
use Rattle.calendar.specs.declared.refusal.Refusal.{Refusal}
use Rattle.calendar.specs.declared.refusal.Refusal.TheVariants.{OutOfRange, Number}
use Rattle.calendar.specs.Replies.{number_of}
use Rattle.board_numbers.specs.Entry.{entry_for}

-- a matrix
module _ (b : Board) (number : ℕ) (d i : ℤ) where
  pub matrix_refused : (e : Refusal) → record { refusal = number_of e; place = 0 } ≡ entry_for b number → record { refusal = number_of e; board = b } ≡ set_matrix_reply b number d i
  unfolding set_matrix_reply matrix_refusal
  matrix_refused e q = refused_as e _ b _ (rw (and-true (on_board b number)) at (entry_err b number e q (cond (not (duration_right d && duration_right i)) 1 0) true))

  pub matrix-wrong : (k : ℕ) → valid b ≡ true → lookup b number ≡ at k → duration_right d && duration_right i ≡ false → record { refusal = 1; board = b } ≡ set_matrix_reply b number d i
  unfolding set_matrix_reply matrix_refusal is_at
  matrix-wrong k v l e = refused_as OutOfRange _ b _ (rw (v, l, e) refl)

  pub matrix-taken : (k : ℕ) (m : TransitionMatrix) → valid b ≡ true → lookup b number ≡ at k → duration_right d ≡ true → duration_right i ≡ true → m ≡ new_matrix d i
      → record { refusal = 0; board = with_resource b k (with_matrix m (resource_at b k)) } ≡ set_matrix_reply b number d i
  unfolding set_matrix_reply matrix_refusal is_at changed entered
  matrix-taken k m v l p q e = rw (e, v, l, p, q) refl

-- an entry of a matrix
module _ (b : Board) (number : ℕ) (more : Bool) (ms : ℤ) (after : Board) where
  pub entry_refused : (e : Refusal) → record { refusal = number_of e; place = 0 } ≡ entry_for b number → record { refusal = number_of e; board = b } ≡ entered (entry_refusal b number more ms) b after
  unfolding entry_refusal
  entry_refused e q = refused_as e _ b after (entry_err b number e q (cond (not (entry_right ms)) 1 0) more)

  pub category-refused : valid b ≡ true → more ≡ false → record { refusal = 5; board = b } ≡ entered (entry_refusal b number more ms) b after
  unfolding entry_refusal
  category-refused v e = refused_as Number _ b after (rw (v, e, and-false (on_board b number)) refl)

  pub entry-wrong : (k : ℕ) → valid b ≡ true → lookup b number ≡ at k → more ≡ true → entry_right ms ≡ false → record { refusal = 1; board = b } ≡ entered (entry_refusal b number more ms) b after
  unfolding entry_refusal is_at
  entry-wrong k v l e f = refused_as OutOfRange _ b after (rw (v, l, e, f) refl)

  entry-fine : (k : ℕ) → valid b ≡ true → lookup b number ≡ at k → more ≡ true → entry_right ms ≡ true → entry_refusal b number more ms ≡ 0
  unfolding entry_refusal is_at
  entry-fine k v l e f = rw (v, l, e, f) refl

module _ (b : Board) (number : ℕ) (ms : ℤ) (k : ℕ) (m : TransitionMatrix) (v : valid b ≡ true) (l : lookup b number ≡ at k) (f : entry_right ms ≡ true) where
  pub transition-taken : (last this : ℕ) → last ≤ 15 → this ≤ 15 → m ≡ with_transition last this ms (matrix_of (resource_at b k).matrix)
      → record { refusal = 0; board = with_resource b k (with_matrix m (resource_at b k)) } ≡ set_transition_reply b number last this ms
  unfolding set_transition_reply changed
  transition-taken last this p q e =
      rw (e, l) (taken-by _ b _ (entry-fine b number (leb last 15 && leb this 15) ms b k v l (and-join _ _ (le-leb last 15 p) (le-leb this 15 q)) f))

  pub initial-taken : (category : ℕ) → category ≤ 15 → m ≡ with_initial category ms (matrix_of (resource_at b k).matrix)
      → record { refusal = 0; board = with_resource b k (with_matrix m (resource_at b k)) } ≡ set_initial_reply b number category ms
  unfolding set_initial_reply changed
  initial-taken category p e = rw (e, l) (taken-by _ b _ (entry-fine b number (leb category 15) ms b k v l (le-leb category 15 p) f))
