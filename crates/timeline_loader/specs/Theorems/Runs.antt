-- Runs on the definitions: empty, taken whole, refused at a first bad record in the middle, at a 33rd, and on a calendar that breaks the rules.
use Rattle.std.specs.Prelude.{◌≡◌, refl, true, false, [], ◌∷◌, ◌++◌, ℕ, ◌^◌, ◌+◌, replicate}
use Rattle.calendar.specs.declared.Calendar.{Calendar}
use Rattle.cells.specs.Every.{every_from}
use Rattle.calendar.specs.Valid.{cell_right, spans_right, valid}
use Rattle.calendar.specs.Add.{add_refusal, empty, with_span, added, add_window, add_block}
use Rattle.timeline.specs.Bookings.{bookings_to, total}
use Rattle.timeline.specs.Valid as timelines
use Rattle.timeline.specs.Diary.{latest_ends, diary, with_calendar}
use Rattle.timeline.specs.Book.{calendar_reply}
use Rattle.timeline_loader.specs.declared.TimeWindow.{TimeWindow}
use Rattle.timeline_loader.specs.Run.{reply, add_one, judged, add_run, add_timeline_run}

abbrev span : ℕ → ℕ → TimeWindow
span s e = record { start = s; end = e }

-- windows 0-10, 10-20 and no blocks; blocks 0-10, 10-20 and no windows; 31 windows 0-1; a cell past the length that is not 0
abbrev pub touching : Calendar
touching = record {
  windows = record { starts = 0 ∷ 10 ∷ replicate 30 0; ends = 10 ∷ 20 ∷ replicate 30 0; len = 2 };
  blocks = record { starts = replicate 32 0; ends = replicate 32 0; len = 0 };
}

abbrev pub blocked : Calendar
blocked = record {
  windows = record { starts = replicate 32 0; ends = replicate 32 0; len = 0 };
  blocks = record { starts = 0 ∷ 10 ∷ replicate 30 0; ends = 10 ∷ 20 ∷ replicate 30 0; len = 2 };
}

abbrev crowded : Calendar
crowded = record {
  windows = record { starts = replicate 32 0; ends = replicate 31 1 ++ (0 ∷ []); len = 31 };
  blocks = record { starts = replicate 32 0; ends = replicate 32 0; len = 0 };
}

abbrev pub full : Calendar
full = record {
  windows = record { starts = replicate 31 0 ++ (5 ∷ []); ends = replicate 31 1 ++ (9 ∷ []); len = 32 };
  blocks = record { starts = replicate 32 0; ends = replicate 32 0; len = 0 };
}

abbrev pub spoilt : Calendar
spoilt = record {
  windows = record { starts = 7 ∷ replicate 31 0; ends = replicate 32 0; len = 0 };
  blocks = record { starts = replicate 32 0; ends = replicate 32 0; len = 0 };
}

-- On a calendar: empty · two windows · two blocks · the second above 2^42 and the third reversed: 1 · the second reversed and the third
-- above 2^42: 2 · the 32nd taken · a 33rd: 4 · a reversed 33rd: 2 · a block beside 31 windows · spoilt, with a run and without · 33 blocks: 4.
pub runs :
    (add_run empty false []
    ∷ add_run empty false (span 0 10 ∷ span 10 20 ∷ [])
    ∷ add_run empty true (span 0 10 ∷ span 10 20 ∷ [])
    ∷ add_run empty false (span 0 10 ∷ span 10 (2 ^ 42 + 1) ∷ span 20 20 ∷ [])
    ∷ add_run empty true (span 0 10 ∷ span 20 20 ∷ span 10 (2 ^ 42 + 1) ∷ [])
    ∷ add_run crowded false (span 5 9 ∷ [])
    ∷ add_run crowded false (span 5 9 ∷ span 0 10 ∷ span 20 20 ∷ [])
    ∷ add_run crowded false (span 5 9 ∷ span 20 20 ∷ span 0 10 ∷ [])
    ∷ add_run crowded true (span 5 9 ∷ [])
    ∷ add_run spoilt false (span 0 10 ∷ [])
    ∷ add_run spoilt true []
    ∷ add_run empty true (replicate 33 (span 0 1))
    ∷ [])
    ≡ reply 0 empty ∷ reply 0 touching ∷ reply 0 blocked ∷ reply 1 empty ∷ reply 2 empty ∷ reply 0 full ∷ reply 4 crowded ∷ reply 2 crowded
    ∷ reply 0 (record { windows = crowded.windows; blocks = record { starts = 5 ∷ replicate 31 0; ends = 9 ∷ replicate 31 0; len = 1 } })
    ∷ reply 15 spoilt ∷ reply 15 spoilt ∷ reply 4 empty ∷ []
unfolding cell_right every_from spans_right valid add_refusal empty with_span added add_window add_block add_one judged add_run
runs = refl

-- On a diary without bookings: two windows · the second reversed · a spoilt calendar
pub timeline-runs :
    (add_timeline_run (diary 1 empty []) false (span 0 10 ∷ span 10 20 ∷ [])
    ∷ add_timeline_run (diary 1 empty []) true (span 0 10 ∷ span 20 20 ∷ [])
    ∷ add_timeline_run (diary 1 spoilt []) false (span 0 10 ∷ [])
    ∷ [])
    ≡ record { refusal = 0; timeline = diary 1 touching [] } ∷ record { refusal = 2; timeline = diary 1 empty [] } ∷ record { refusal = 15; timeline = diary 1 spoilt [] } ∷ []
unfolding cell_right every_from spans_right valid add_refusal empty with_span added add_window add_block add_one judged add_run bookings_to total
    timelines.cell_empty timelines.contents_right timelines.valid latest_ends diary with_calendar calendar_reply add_timeline_run
timeline-runs = refl
