-- What reading a diary answers (the Rust's `capacity`, `booked_ms`, `latest_end`; not in 01).
use Rattle.std.specs.Prelude.{ℕ, Result, Ok, Err, not, cond}
use Rattle.timeline.specs.declared.ResourceTimeline.{ResourceTimeline}
use Rattle.calendar.specs.declared.refusal.Refusal.{Refusal}
use Rattle.calendar.specs.Replies.{number_of}
use Rattle.timeline.specs.Bookings.{bookings, total, latest_end}
use Rattle.timeline.specs.Valid.{valid}

-- a number, or a refusal's number
pub data Read : Type 0 where
  value : ℕ → Read
  refused : ℕ → Read

abbrev pub read_of : Result ℕ Refusal → Read
read_of (Ok n) = value n
read_of (Err e) = refused (number_of e)

-- 15 before all else
unfoldable pub read : ResourceTimeline → ℕ → Read
read t n = cond (not (valid t)) (refused 15) (value n)

abbrev pub capacity_read : ResourceTimeline → Read
capacity_read t = read t t.capacity

-- the booked total
abbrev pub booked_read : ResourceTimeline → Read
booked_read t = read t (total (bookings t))

-- the latest end, 0 where there is no booking
abbrev pub latest_read : ResourceTimeline → Read
latest_read t = read t (latest_end (bookings t))
