-- The example of 01, 'Program slot', on the definitions: its bytes, and its whole output.
use Rattle.std.specs.Prelude.{◌≡◌, refl, List, [], ◌∷◌, ◌++◌, ℕ, replicate}
use Rattle.cells.specs.Every.{every_from}
use Rattle.calendar.specs.Search.{least_from, greatest_of}
use Rattle.calendar.specs.Spans.{spans_from, any, holds, meets}
use Rattle.calendar.specs.Valid as calendar
use Rattle.calendar.specs.Fits.{open_for, fits}
use Rattle.calendar.specs.Work.{latest, last_change}
use Rattle.calendar.specs.Add.{empty}
use Rattle.timeline.specs.Bookings.{bookings_to, total, latest_end}
use Rattle.cells.specs.Cells.{before}
use Rattle.timeline.specs.Valid.{cell_right, cell_empty, contents_right, valid}
use Rattle.timeline.specs.Free.{overlaps, on_at, tally, load, free}
use Rattle.timeline.specs.Earliest.{fits_at, last_event, earliest_fit}
use Rattle.timeline.specs.Diary.{capacity_of, insert_by_start, latest_ends, diary}
use Rattle.timeline.specs.Book.{book_refusal, taken, book_reply}
use Rattle.timeline.specs.Ask.{unbroken, ask_refusal, asked}
use Rattle.calendar.specs.Refusals.{refused_or}
use Rattle.record_texts.specs.Text.{decimal_to}
use Rattle.record_bodies.specs.Numbers.{little}
use Rattle.record_diary_text.specs.Lines.{text_of}
use Rattle.record_bodies.specs.Bodies.{diary_len}
use Rattle.record_diary.specs.Records.{books, asks, record_does, turn_reply}
use Rattle.record_diary.specs.Stream.{go_on, stream_from, slot}

-- a number below 256 in n + 1 bytes
abbrev pub low : ℕ → ℕ → List ℕ
low n x = x ∷ replicate n 0

-- booking 100, 200, 1; kind 5 with 50, 50, 1; kind 5 with 50, 51, 1: `fit 50 100`, `fit 200 251`
pub example : slot
    ((4 ∷ (low 7 100 ++ (low 7 200 ++ low 3 1)))
    ++ ((5 ∷ (low 7 50 ++ (low 7 50 ++ low 3 1))) ++ (5 ∷ (low 7 50 ++ (low 7 51 ++ low 3 1)))))
    ≡ 102 ∷ 105 ∷ 116 ∷ 32 ∷ 53 ∷ 48 ∷ 32 ∷ 49 ∷ 48 ∷ 48 ∷ 10 ∷ 102 ∷ 105 ∷ 116 ∷ 32 ∷ 50 ∷ 48 ∷ 48 ∷ 32 ∷ 50 ∷ 53 ∷ 49 ∷ 10 ∷ []
unfolding least_from spans_from any holds meets calendar.cell_right every_from calendar.spans_right calendar.valid open_for fits latest last_change
    empty bookings_to total latest_end before cell_right cell_empty contents_right valid overlaps on_at tally load free fits_at last_event earliest_fit capacity_of
    insert_by_start latest_ends diary book_refusal taken book_reply unbroken ask_refusal refused_or asked little decimal_to text_of diary_len books
    asks record_does turn_reply go_on stream_from slot greatest_of
example = refl
