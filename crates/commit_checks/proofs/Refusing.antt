-- The replies of a commitment, over plain values: each refusal in its order, and the board booked.
use mathlib.Core.Path.{◌≡◌, refl, sym, ◌∙◌}
use mathlib.Core.Bool.{true, false, not, cond}
use mathlib.Core.List.{List, []}
use mathlib.Core.Logic.{⊎_elim}
use Prim.Native.Nat.{ℕ, ◌^◌, ◌≤◌, ◌<◌}
use native.Mathlib.Omega.{arith}
use lib.ListN.{length}
use lib.Dec.{ltb, eqb}
use borrow.Author.Tests.{lt-leb, le-ltb, lt-ltb, le-leb, ltb-false, not-false, ne_eqb}
use Rattle.cells.specs.Laws.Basics.{unrefused, same_or_not}
use Rattle.cells.specs.Every.{every, Each}
use Rattle.board.specs.declared.Board.{Board}
use Rattle.board.specs.Replies.{Entered}
use Rattle.board.specs.Valid as board
use Rattle.calendar.specs.declared.refusal.Refusal.{Refusal}
use Rattle.calendar.specs.Replies.{number_of}
use Rattle.board.specs.Enter.{entered}
use Rattle.board.specs.Laws.Replying.{refused_as, taken-by}
use Rattle.scheduler.specs.Committing.{Line, lines_of, lines_refusal, commit_refusal, book_all, commit_reply, Bookable}
use Rattle.scheduler.specs.Laws.Committed.{BookableLine, Room, all_on, all_metered, all_roomy, passed, room-passed, all-fine}
use Rattle.scheduler.specs.Rows.{Row}

module _ (b : Board) (ls : List Line) (start end category : ℕ) where
  pub refused-off : all_on b ls ≡ false → 5 ≡ lines_refusal b ls start end category
  unfolding lines_refusal
  refused-off e = rw e refl

  module _ (on : all_on b ls ≡ true) where
    pub refused-category : 15 < category → 5 ≡ lines_refusal b ls start end category
    unfolding lines_refusal
    refused-category l = rw (on, lt-ltb 15 category l) refl

    module _ (c : category ≤ 15) where
      pub refused-start : 2 ^ 42 < start → 1 ≡ lines_refusal b ls start end category
      unfolding lines_refusal
      refused-start l = rw (on, le-ltb 15 category c, lt-ltb (2 ^ 42) start l) refl

      module _ (s : start ≤ 2 ^ 42) where
        pub refused_end : 2 ^ 42 < end → 1 ≡ lines_refusal b ls start end category
        unfolding lines_refusal
        refused_end l = rw (on, le-ltb 15 category c, le-ltb (2 ^ 42) start s, lt-ltb (2 ^ 42) end l) refl

        module _ (e : end ≤ 2 ^ 42) where
          pub refused-order : end ≤ start → 2 ≡ lines_refusal b ls start end category
          unfolding lines_refusal
          refused-order l = rw (on, le-ltb 15 category c, le-ltb (2 ^ 42) start s, le-ltb (2 ^ 42) end e, le-leb end start l) refl

          module _ (o : start < end) where
            pub refused-units : all_metered ls ≡ false → 3 ≡ lines_refusal b ls start end category
            unfolding lines_refusal
            refused-units u = rw (on, le-ltb 15 category c, le-ltb (2 ^ 42) start s, le-ltb (2 ^ 42) end e, lt-leb end start o, u) refl

            module _ (u : all_metered ls ≡ true) where
              pub refused-room : all_roomy b ls ≡ false → 4 ≡ lines_refusal b ls start end category
              unfolding lines_refusal
              refused-room r = rw (on, le-ltb 15 category c, le-ltb (2 ^ 42) start s, le-ltb (2 ^ 42) end e, lt-leb end start o, u, r) refl

              pub refused_none : all_roomy b ls ≡ true → 0 ≡ lines_refusal b ls start end category
              unfolding lines_refusal
              refused_none r = rw (on, le-ltb 15 category c, le-ltb (2 ^ 42) start s, le-ltb (2 ^ 42) end e, lt-leb end start o, u, r) refl

-- a commitment: the first `count` entries of a slate on a board, from when to when, and the category
pub record Commitment : Type 0 where
  pub board : Board
  pub slate : List Row
  pub count : ℕ
  pub start : ℕ
  pub end : ℕ
  pub category : ℕ

abbrev pub lines_in : Commitment → List Line
lines_in k = lines_of k.count k.slate

abbrev pub commitment_refusal : Commitment → ℕ
commitment_refusal k = commit_refusal k.board k.slate k.count k.start k.end k.category

-- the board with all of it booked
abbrev pub whole_of : Commitment → Board
whole_of k = book_all k.start k.end k.category (lines_in k) k.board

abbrev pub commitment_reply : Commitment → Entered
commitment_reply k = commit_reply k.board k.slate k.count k.start k.end k.category

-- what a commitment that is not refused has: a board that keeps the rules, rows enough, and lines that can be booked
pub record Fine (k : Commitment) : Type 0 where
  pub valid : board.valid k.board ≡ true
  pub enough : k.count ≤ length k.slate
  pub bookable : 0 < k.count → Bookable k.start k.end k.category
  pub right : Each (BookableLine k.board) (lines_in k)
  pub room : Room k.board (lines_in k)

module _ (k : Commitment) where
  pub refusal-rules : board.valid k.board ≡ false → 15 ≡ commitment_refusal k
  unfolding commit_refusal
  refusal-rules v = rw v refl

  module _ (v : board.valid k.board ≡ true) where
    module _ (some : eqb k.count 0 ≡ false) where
      pub refusal-count : length k.slate < k.count → 7 ≡ commitment_refusal k
      unfolding commit_refusal
      refusal-count l = rw (v, some, lt-ltb (length k.slate) k.count l) refl

      pub refusal-lines : k.count ≤ length k.slate → lines_refusal k.board (lines_in k) k.start k.end k.category ≡ commitment_refusal k
      unfolding commit_refusal
      refusal-lines l = rw (v, some, le-ltb (length k.slate) k.count l) refl

  fine-none : board.valid k.board ≡ true → k.count ≡ 0 → Fine k
  unfolding every lines_of
  fine-none v z = record {
    valid = v;
    enough = omega (arith, z);
    bookable = λ l. absurd (omega (arith, z));
    right = rw z (passed k.board [] refl refl);
    room = rw z (room-passed k.board [] v refl);
  }

  fine-some : board.valid k.board ≡ true → cond (ltb (length k.slate) k.count) 7 (lines_refusal k.board (lines_in k) k.start k.end k.category) ≡ 0 → Fine k
  fine-some v e =
      let x = unrefused (ltb (length k.slate) k.count) 6 _ e in
      let w = all-fine k.board (lines_in k) k.start k.end k.category v x.1 in
      record {
        valid = v;
        enough = ltb-false (length k.slate) k.count x.0;
        bookable = λ l. w.0;
        right = w.1;
        room = w.2;
      }

  pub fine : (n : ℕ) → n ≡ commitment_refusal k → n ≡ 0 → Fine k
  unfolding commit_refusal
  fine n q z =
      let x = unrefused (not (board.valid k.board)) 14 _ (sym q ∙ z) in
      let v = not-false (board.valid k.board) x.0 in
      ⊎_elim
      (λ (h : 0 ≡ k.count). fine-none v (sym h))
      (λ (h : k.count ≡ 0 → ⊥). fine-some v (rw (ne_eqb k.count 0 h) at x.1))
      (same_or_not 0 k.count)

  pub reply_refused : (e : Refusal) → number_of e ≡ commitment_refusal k → record { refusal = number_of e; board = k.board } ≡ commitment_reply k
  unfolding commit_reply
  reply_refused e q = refused_as e (commitment_refusal k) k.board (whole_of k) q

  -- no entries
  pub reply-none : board.valid k.board ≡ true → k.count ≡ 0 → record { refusal = 0; board = k.board } ≡ commitment_reply k
  unfolding commit_reply commit_refusal book_all lines_of entered
  reply-none v z = rw (v, z) refl

  pub reply-taken : (after : Board) → 0 ≡ commitment_refusal k → after ≡ whole_of k → record { refusal = 0; board = after } ≡ commitment_reply k
  unfolding commit_reply
  reply-taken after e z = rw z (taken-by (commitment_refusal k) k.board (whole_of k) (sym e))
