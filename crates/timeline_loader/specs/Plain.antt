-- The plainest terms, in which Theorems/ says what the reply to a run amounts to: a good record, and a run that is taken.
use Rattle.std.specs.Prelude.{◌≡◌, Bool, true, false, not, List, [], ◌∷◌, ◌++◌, map, ◌+◌, ◌≤◌, ◌<◌, length}
use Rattle.calendar.specs.Limits.{last_instant}
use Rattle.calendar.specs.declared.TimeWindows.{TimeWindows}
use Rattle.calendar.specs.declared.Calendar.{Calendar}
use Rattle.calendar.specs.Valid.{valid}
use Rattle.calendar.specs.Spans.{Span, spans}
use Rattle.timeline_loader.specs.declared.TimeWindow.{TimeWindow}
use Rattle.timeline.specs.declared.ResourceTimeline.{ResourceTimeline}
use Rattle.timeline.specs.Valid as timeline
use Rattle.timeline.specs.Diary.{with_calendar}

-- the list that a record is added to, windows or blocks
abbrev pub list_of : Bool → Calendar → TimeWindows
list_of true c = c.blocks
list_of false c = c.windows

abbrev pub span_of : TimeWindow → Span
span_of w = record { start = w.start; end = w.end }

-- a record that no window or block before it could make bad: two instants, the end after the start
abbrev pub Good : TimeWindow → Type 0
Good w = (w.end ≤ last_instant) × (w.start < w.end)

abbrev pub AllGood : List TimeWindow → Type 0
AllGood [] = Unit {0}
AllGood (w ∷ ws) = Good w × AllGood ws

-- the arrays have 32 cells, as their types say
pub record WholeArrays (l : TimeWindows) : Type 0 where
  pub starts : length l.starts ≡ 32
  pub ends : length l.ends ≡ 32

-- k is what c becomes when the records ws are taken: they are good and there is room for them, they stand behind the spans of their list
-- in their order, the other list is as it was, and the calendar keeps the rules
pub record TakenWhole (c : Calendar) (block : Bool) (ws : List TimeWindow) (k : Calendar) : Type 0 where
  pub good : AllGood ws
  pub room : (list_of block c).len + length ws ≤ 32
  pub list : spans (list_of block k) ≡ spans (list_of block c) ++ map span_of ws
  pub other : list_of (not block) k ≡ list_of (not block) c
  pub ruled : valid k ≡ true

-- the diary t becomes d when the records ws are taken: its calendar takes them, all else is as it was, and d keeps the rules
pub record TakenByDiary (t : ResourceTimeline) (block : Bool) (ws : List TimeWindow) (d : ResourceTimeline) : Type 0 where
  pub accepted : TakenWhole t.calendar block ws d.calendar
  pub same : d ≡ with_calendar t d.calendar
  pub ruled : timeline.valid d ≡ true
