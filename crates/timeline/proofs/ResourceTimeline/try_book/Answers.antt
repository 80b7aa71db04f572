-- `timeline::ResourceTimeline::try_book` meets its contract: a refusal leaves the diary as it is, and without one the booking goes in.
use borrow.Author.Tests.{not-false, ltb-false, leb-false}
use mathlib.Core.Path.{◌≡◌, sym}
use mathlib.Core.Bool.{true, not, ◌||◌}
use Prim.Native.Nat.{ℕ, ◌^◌, ◌≤◌, ◌<◌}
use lib.Dec.{leb, ltb}
use Rattle.cells.specs.Laws.Basics.{or_left, or_right, unrefused}
use Rattle.timeline.specs.declared.ResourceTimeline.{ResourceTimeline}
use Rattle.timeline.specs.Valid.{valid}
use Rattle.timeline.specs.Book.{book_refusal}
use Rattle.timeline.proofs.ResourceTimeline.try_book.Goals as goal

-- what no refusal says of a booking
record Accepting (t : ResourceTimeline) (s e u : ℕ) : Type 0 where
  keeps : valid t ≡ true
  room : t.len < 64
  order : s < e
  range : e ≤ 2 ^ 42
  some : 1 ≤ u
  few : u ≤ 10000

bookable : (t : ResourceTimeline) (s e u : ℕ) → book_refusal t s e u ≡ 0 → Accepting t s e u
unfolding book_refusal
bookable t s e u z =
    let x0 = unrefused (not (valid t)) 14 _ z in
    let x1 = unrefused (ltb (2 ^ 42) s || ltb (2 ^ 42) e) 0 _ x0.1 in
    let x2 = unrefused (leb e s) 1 _ x1.1 in
    let x3 = unrefused (ltb u 1 || ltb 10000 u) 2 _ x2.1 in
    let x4 = unrefused (leb 64 t.len) 3 0 x3.1 in
    record {
      keeps = not-false _ x0.0;
      room = leb-false 64 t.len x4.0;
      order = leb-false e s x2.0;
      range = ltb-false (2 ^ 42) e (or_right (ltb (2 ^ 42) s) (ltb (2 ^ 42) e) x1.0);
      some = ltb-false u 1 (or_left (ltb u 1) (ltb 10000 u) x3.0);
      few = ltb-false 10000 u (or_right (ltb u 1) (ltb 10000 u) x3.0);
    }

accepted : (c : goal.In_ok-check_booking) → Accepting c.args.self c.args.start c.args.end c.args.units
accepted c = bookable _ _ _ _ (sym c.in_ok-check_booking.ensures)

pub insert-requires-clause-t_value : goal.insert-requires-clause-t_value
insert-requires-clause-t_value c = (accepted c).keeps

pub insert-requires-clause-len_bound : goal.insert-requires-clause-len_bound
insert-requires-clause-len_bound c = let b = accepted c in (b.room, b.order, b.range, (b.some, b.few))
