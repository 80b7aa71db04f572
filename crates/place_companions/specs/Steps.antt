-- How far the asking of several diaries has come.
use Rattle.std.specs.Prelude.{ℕ, ◌==◌, Option, Some, None}
use Rattle.calendar.specs.Search.{Found, nothing, at}
use Rattle.scheduler.specs.Shares.{next_asked}
use Rattle.place_companions.specs.declared.Asking.{Asking}

-- nobody has answered yet
abbrev pub idle : Asking
idle = record { start = 0; next = 0 }

-- after the i-th has answered, asked from an instant on; none where it has no start
unfoldable pub answered_by : ℕ → ℕ → Found → Option Asking
answered_by i from (at x) = Some (record { start = x; next = next_asked i (x == from) })
answered_by i from nothing = None
