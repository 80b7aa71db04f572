-- Calendars that keep the rules; what a layout is says `calendar_work`.
use Rattle.std.specs.Prelude.{◌≡◌, ℕ, ◌<◌, true, List, get_or}
use Rattle.calendar.specs.declared.Calendar.{Calendar}
use Rattle.calendar.specs.Add.{no_calendar}
use Rattle.calendar.specs.Valid.{valid}

-- each of the first n calendars keeps the rules
abbrev pub Ruled : List Calendar → ℕ → Type 0
Ruled cs n = (k : ℕ) → k < n → valid (get_or cs k no_calendar) ≡ true
