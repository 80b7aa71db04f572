-- The replies of 'Window or block' to a lent run of window records: judged record by record and taken whole, or refused with the
-- number of the first bad record.
use Rattle.std.specs.Prelude.{ℕ, Bool, true, false, List, [], ◌∷◌, eqb}
use Rattle.calendar.specs.declared.Calendar.{Calendar}
use Rattle.calendar.specs.Replies.{Added}
use Rattle.calendar.specs.Valid.{valid}
use Rattle.calendar.specs.Add.{add_window, add_block}
use Rattle.timeline.specs.declared.ResourceTimeline.{ResourceTimeline}
use Rattle.timeline.specs.declared.Booked.{Booked}
use Rattle.timeline.specs.Book.{calendar_reply}
use Rattle.timeline_loader.specs.declared.TimeWindow.{TimeWindow}

abbrev pub reply : ℕ → Calendar → Added
reply n c = record { refusal = n; calendar = c }

-- a record singly, as a block or as a window
unfoldable pub add_one : Calendar → Bool → TimeWindow → Added
add_one c block w = elim block [ true ↦ add_block c w.start w.end | false ↦ add_window c w.start w.end ]

-- The records one after another, on the calendar k that has taken those before them: k with all of them, or the number of the first
-- bad one and c, the calendar before the run.
unfoldable pub judged : Calendar → Bool → Calendar → List TimeWindow → Added
judged c block k [] = reply 0 k
judged c block k (w ∷ ws) =
    elim (eqb (add_one k block w).refusal 0) [
      | true ↦ judged c block (add_one k block w).calendar ws
      | false ↦ reply (add_one k block w).refusal c
    ]

-- 15 before all else
unfoldable pub add_run : Calendar → Bool → List TimeWindow → Added
add_run c block ws = elim (valid c) [ true ↦ judged c block c ws | false ↦ reply 15 c ]

-- the same on the calendar of a diary
unfoldable pub add_timeline_run : ResourceTimeline → Bool → List TimeWindow → Booked
add_timeline_run t block ws = calendar_reply t (add_run t.calendar block ws)
