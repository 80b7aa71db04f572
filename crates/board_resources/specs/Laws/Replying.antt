-- The replies of entries, over plain values: each refusal in its order, and what an accepted entry leaves.
use borrow.Author.Tests.{not-false, ltb-false, lt-ltb, le-ltb}
use Rattle.std.specs.Prelude.{Bool, ◌||◌, List, ◌≡◌, ℕ, ◌≤◌, ◌<◌, leb, length}
use Rattle.std.proofs.Math.Bool.{true, false, not}
use Rattle.std.proofs.Math.Path.{refl}
use Rattle.std.proofs.Math.Dec.{ltb}
use Rattle.cells.specs.Laws.Basics.{or_left, or_right, unrefused}
use Rattle.cells.specs.Every.{every}
use Rattle.board.specs.Enter.{add_refusal}
use Rattle.board.specs.Resources.{on_board}
use Rattle.board.specs.Valid.{valid}
use Rattle.board.specs.declared.Board.{Board}
use Rattle.board_resources.specs.Laws.Counting.{place-left}
use Rattle.timeline.specs.declared.ResourceTimeline.{ResourceTimeline}
use Rattle.timeline.specs.Valid as timeline

-- a new resource
module _ (b : Board) (number : ℕ) (companions : List ℕ) (t : ResourceTimeline) where
  abbrev small : Bool
  small = every (λ companion. leb companion 15) companions

  pub add-15 : valid b ≡ false → 15 ≡ add_refusal b number companions t
  unfolding add_refusal
  add-15 v = rw v refl

  pub add-diary : valid b ≡ true → timeline.valid t ≡ false → 15 ≡ add_refusal b number companions t
  unfolding add_refusal
  add-diary v w = rw (v, w) refl

  pub add-number : valid b ≡ true → timeline.valid t ≡ true → 15 < number → 5 ≡ add_refusal b number companions t
  unfolding add_refusal
  add-number v w l = rw (v, w, lt-ltb 15 number l) refl

  pub add-companion : valid b ≡ true → timeline.valid t ≡ true → number ≤ 15 → small ≡ false → 5 ≡ add_refusal b number companions t
  unfolding add_refusal
  add-companion v w l e = rw (v, w, le-ltb 15 number l, e) refl

  -- what the tests before those of the board's room say
  pub record Passed : Type 0 where
    pub board : valid b ≡ true
    pub diary : timeline.valid t ≡ true
    pub low : number ≤ 15
    pub each : small ≡ true

  pub add-there : Passed → on_board b number ≡ true → 4 ≡ add_refusal b number companions t
  unfolding add_refusal
  add-there p o = rw (p.board, p.diary, le-ltb 15 number p.low, p.each, o) refl

  pub add-many : Passed → on_board b number ≡ false → 4 < length companions → 4 ≡ add_refusal b number companions t
  unfolding add_refusal
  add-many p o m = rw (p.board, p.diary, le-ltb 15 number p.low, p.each, o, lt-ltb 4 (length companions) m) refl

  pub add-0 : Passed → on_board b number ≡ false → length companions ≤ 4 → 0 ≡ add_refusal b number companions t
  unfolding add_refusal
  add-0 p o m = rw (p.board, p.diary, le-ltb 15 number p.low, p.each, o, le-ltb 4 (length companions) m) refl

  -- what no refusal says
  pub record Taken : Type 0 where
    pub board : valid b ≡ true
    pub diary : timeline.valid t ≡ true
    pub low : number ≤ 15
    pub each : small ≡ true
    pub new : on_board b number ≡ false
    pub few : length companions ≤ 4
    pub room : b.len < 16

  pub add-taken : add_refusal b number companions t ≡ 0 → Taken
  unfolding add_refusal
  add-taken e =
      let x0 = unrefused (not (valid b) || not (timeline.valid t)) 14 _ e in
      let x1 = unrefused (ltb 15 number || not small) 4 _ x0.1 in
      let x2 = unrefused (on_board b number || ltb 4 (length companions)) 3 0 x1.1 in
      let board : valid b ≡ true = not-false _ (or_left (not (valid b)) (not (timeline.valid t)) x0.0) in
      let low : number ≤ 15 = ltb-false 15 number (or_left (ltb 15 number) (not small) x1.0) in
      let new : on_board b number ≡ false = or_left (on_board b number) (ltb 4 (length companions)) x2.0 in
      record {
        board = board;
        diary = not-false _ (or_right (not (valid b)) (not (timeline.valid t)) x0.0);
        low = low;
        each = not-false _ (or_right (ltb 15 number) (not small) x1.0);
        new = new;
        few = ltb-false 4 (length companions) (or_right (on_board b number) (ltb 4 (length companions)) x2.0);
        room = place-left b number board low new;
      }
