-- 01, 'Window or block': the replies, singly.
use Rattle.std.specs.Prelude.{ℕ, zero, suc, ◌+◌, not, cond, ◌||◌, set, leb, ltb}
use mathlib.Core.List.{[], replicate}
use Rattle.calendar.specs.Limits.{last_instant, most_spans}
use Rattle.calendar.specs.declared.TimeWindows.{TimeWindows}
use Rattle.calendar.specs.declared.Calendar.{Calendar}
use Rattle.calendar.specs.Replies.{Added}
use Rattle.calendar.specs.Valid.{valid}

-- 15 before all else, 1 instant out of range, 2 end ≤ start, 4 over 32; 0 for none
unfoldable pub add_refusal : Calendar → ℕ → ℕ → ℕ → ℕ
add_refusal c held s e =
    cond (not (valid c)) 15
    (cond (ltb last_instant s || ltb last_instant e) 1
    (cond (leb e s) 2
    (cond (leb most_spans held) 4 0)))

-- no windows and no blocks: always open
unfoldable pub empty : Calendar
empty = record {
  windows = record { starts = replicate 32 0; ends = replicate 32 0; len = 0 };
  blocks = record { starts = replicate 32 0; ends = replicate 32 0; len = 0 };
}

-- what is read past an array's end: an array of it has no cell
abbrev pub no_calendar : Calendar
no_calendar = record { windows = record { starts = []; ends = []; len = 0 }; blocks = record { starts = []; ends = []; len = 0 } }

-- the spans with [s, e) behind them
unfoldable pub with_span : TimeWindows → ℕ → ℕ → TimeWindows
with_span l s e = record { starts = set l.starts l.len s; ends = set l.ends l.len e; len = l.len + 1 }

-- a refusal carries its number and changes nothing
unfoldable pub added : ℕ → Calendar → Calendar → Added
added zero c more = record { refusal = 0; calendar = more }
added (suc n) c more = record { refusal = suc n; calendar = c }

unfoldable pub add_window : Calendar → ℕ → ℕ → Added
add_window c s e = added (add_refusal c c.windows.len s e) c (record { windows = with_span c.windows s e; blocks = c.blocks })

unfoldable pub add_block : Calendar → ℕ → ℕ → Added
add_block c s e = added (add_refusal c c.blocks.len s e) c (record { windows = c.windows; blocks = with_span c.blocks s e })
