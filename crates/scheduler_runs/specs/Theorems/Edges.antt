-- Edges that no reply shows, on the definitions: what a diary holds.
use Rattle.std.specs.Prelude.{◌≡◌, refl, [], ◌∷◌, replicate, pos, negsuc}
use Rattle.cells.specs.Every.{every_from}
use Rattle.calendar.specs.Valid as calendar
use Rattle.calendar.specs.Add.{empty}
use Rattle.cells.specs.Cells.{before}
use Rattle.timeline.specs.declared.ResourceTimeline.{ResourceTimeline}
use Rattle.timeline.specs.Bookings.{booking, bookings_to, total}
use Rattle.timeline.specs.Valid as timeline
use Rattle.timeline.specs.Diary.{capacity_of, insert_by_start, latest_ends, diary}
use Rattle.timeline.specs.Book.{book_refusal, taken, book_reply}
use Rattle.scheduler_runs.specs.Theorems.Runs.{free1}

-- given -3, 0 and 3
pub capacities : (capacity_of (negsuc 2) ∷ capacity_of (pos 0) ∷ capacity_of (pos 3) ∷ []) ≡ 1 ∷ 1 ∷ 3 ∷ []
unfolding capacity_of
capacities = refl

-- bookings 0-3, 5-9 and 5-7 of two units on a diary of capacity 1
abbrev pub three : ResourceTimeline
three = diary 1 empty (booking 0 3 1 ∷ booking 5 9 1 ∷ booking 5 7 2 ∷ [])

-- its columns with their running latest ends, then its length and total
pub columns :
    (three.starts ∷ three.ends ∷ three.units ∷ three.latest ∷ (three.len ∷ three.booked ∷ []) ∷ [])
    ≡ (0 ∷ 5 ∷ 5 ∷ replicate 61 0)
    ∷ (3 ∷ 9 ∷ 7 ∷ replicate 61 0)
    ∷ (1 ∷ 1 ∷ 2 ∷ replicate 61 0)
    ∷ (3 ∷ 9 ∷ 9 ∷ replicate 61 0)
    ∷ (3 ∷ 11 ∷ [])
    ∷ []
unfolding total latest_ends diary
columns = refl

-- 5-9, then 5-7 behind its equal start though the capacity is 1, then 0-3 in front · one more without length: refused, and the diary as it was
pub booked :
    (book_reply (book_reply (book_reply free1 5 9 1).timeline 5 7 2).timeline 0 3 1 ∷ book_reply three 8 8 1 ∷ [])
    ≡ record { refusal = 0; timeline = three } ∷ record { refusal = 2; timeline = three } ∷ []
unfolding calendar.cell_right every_from calendar.spans_right calendar.valid empty bookings_to total before timeline.cell_right
    timeline.cell_empty timeline.contents_right timeline.valid insert_by_start latest_ends diary book_refusal taken book_reply
booked = refl
