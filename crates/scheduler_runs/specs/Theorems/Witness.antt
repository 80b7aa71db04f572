-- Demand 3 is not empty: two boards, an order and a placement that meet its hypotheses. Resource 0 is booked from 0 to 100, and on the
-- second board from 10 to 40 as well; the order is placed on resource 1 at 0 on both.
use Rattle.std.specs.Prelude.{◌≡◌, refl, [], ◌∷◌, ℕ, zero, suc, ◌<◌, replicate}
use Rattle.std.proofs.Common.{arith}
use Rattle.cells.specs.Every.{every_from, Each, each_end, each_on}
use Rattle.calendar.specs.Search.{least_from, is_at}
use Rattle.calendar.specs.Spans.{spans_from}
use Rattle.calendar.specs.Valid as calendar
use Rattle.calendar.specs.Add.{empty}
use Rattle.cells.specs.Cells.{before}
use Rattle.timeline.specs.Bookings.{Booking, booking, bookings_to, bookings, total, times, Within}
use Rattle.timeline.specs.Valid as timeline
use Rattle.timeline.specs.Diary.{insert_by_start, latest_ends, diary}
use Rattle.timeline.specs.Book.{book_refusal, taken, book_reply}
use Rattle.board.specs.declared.Board.{Board}
use Rattle.board.specs.Resources as resources
use Rattle.board.specs.Valid as board
use Rattle.scheduler.specs.Alone.{resource_in}
use Rattle.scheduler.specs.Placing.{place_reply}
use Rattle.scheduler.specs.Alike.{AlikeResource, Alike, NoExtra}
use Rattle.scheduler.specs.Laws.AlikeDiaries.{same_alike}
use Rattle.scheduler.proofs.Theorems.Demand3.{demand-3}
use Rattle.scheduler_runs.specs.Theorems.Runs.{board_of, booked, free1, order, entry, placed_at, first-placed}

abbrev pub first : Board
first = board_of (booked free1 0 100) free1

abbrev pub second : Board
second = board_of (booked (booked free1 0 100) 10 40) free1

one_more : (x y : Booking) → Within (x ∷ []) (x ∷ y ∷ [])
unfolding times
one_more x y b = omega arith

booked-more : Within (bookings (booked free1 0 100)) (bookings (booked (booked free1 0 100) 10 40))
unfolding spans_from calendar.cell_right every_from calendar.spans_right calendar.valid empty bookings_to total insert_by_start latest_ends diary
    book_refusal taken book_reply before timeline.cell_right timeline.cell_empty timeline.contents_right timeline.valid resources.lookup_to is_at board.duration_right
    board.entry_right board.is_zero board.matrix_right board.companions_right board.last_right board.resource_right
    board.diary_blank board.last_blank board.resource_blank board.cell_right board.transport_right board.valid least_from
booked-more = one_more (booking 0 100 1) (booking 10 40 1)

pub alike : Alike first second
unfolding spans_from calendar.cell_right every_from calendar.spans_right calendar.valid empty bookings_to total insert_by_start latest_ends diary
    book_refusal taken book_reply before timeline.cell_right timeline.cell_empty timeline.contents_right timeline.valid resources.lookup_to is_at board.duration_right
    board.entry_right board.is_zero board.matrix_right board.companions_right board.last_right board.resource_right
    board.diary_blank board.last_blank board.resource_blank board.cell_right board.transport_right board.valid least_from
alike = record {
  first_valid = refl;
  second_valid = refl;
  len_same = refl;
  transport_same = refl;
  resources_alike = each;
}
  where
    each : (i : ℕ) → i < 2 → AlikeResource (resources.resource_at first i) (resources.resource_at second i)
    each zero l = record {
      number_same = refl;
      kind_same = refl;
      skills_same = refl;
      companions_same = refl;
      count_same = refl;
      matrix_same = refl;
      last_same = refl;
      diary_alike = record { capacity_same = refl; calendar_same = refl; more = booked-more };
    }
    each (suc zero) l = record {
      number_same = refl;
      kind_same = refl;
      skills_same = refl;
      companions_same = refl;
      count_same = refl;
      matrix_same = refl;
      last_same = refl;
      diary_alike = same_alike free1;
    }
    each (suc (suc i)) l = absurd (omega arith)

-- no extra is on the resource that the placement reports
pub clean : Each (λ x. NoExtra first second x.number) (entry 1 ∷ [])
unfolding spans_from calendar.cell_right every_from calendar.spans_right calendar.valid empty bookings_to total insert_by_start latest_ends diary
    book_refusal taken book_reply before timeline.cell_right timeline.cell_empty timeline.contents_right timeline.valid resources.lookup_to is_at board.duration_right
    board.entry_right board.is_zero board.matrix_right board.companions_right board.last_right board.resource_right
    board.diary_blank board.last_blank board.resource_blank board.cell_right board.transport_right board.valid least_from resource_in
clean =
    let same : NoExtra first second 1 = λ b. omega arith in
    each_on same each_end

-- so the second board places it as the first does
pub same-placement : place_reply second (order 30 1 []) 0 24 ≡ placed_at 0 0 30 (entry 1 ∷ [])
same-placement = (demand-3 first second alike (order 30 1 []) 0 (replicate 24 []) (replicate 24 []) refl).same-placement _ first-placed clean
