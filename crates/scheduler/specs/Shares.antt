-- The least start on one share, as the code asks for it, the order's own calendar as a share, and whose turn it is when several are asked.
use Rattle.std.specs.Prelude.{ℕ, suc, ◌+◌, zero, Bool, cond, true, false, []}
use Rattle.calendar.specs.Search.{Found}
use Rattle.timeline.specs.Earliest.{earliest_fit, earliest_resumable}
use Rattle.scheduler.specs.Alone.{Share}
use Rattle.calendar.specs.declared.Calendar.{Calendar}
use Rattle.timeline.specs.Diary.{diary, no_diary}

-- the least start on one share, unbroken or resumable
unfoldable pub start_on : Bool → ℕ → Share → ℕ → Found
start_on resumable span x t =
    cond resumable (earliest_resumable x.timeline t span x.units)
    (earliest_fit x.timeline t span x.units)

-- what is read past the end of a list
abbrev pub no_share : Share
no_share = record { timeline = no_diary; units = 0 }

-- the order's own calendar: a diary that nothing books (the Rust's `own_timeline`)
abbrev pub own_share : Calendar → Share
own_share own = record { timeline = diary 1 own []; units = 1 }

-- the diary to ask after the i-th: the next, and the first again where the start has moved on past those in front
unfoldable pub next_asked : ℕ → Bool → ℕ
next_asked zero stays = 1
next_asked (suc i) true = suc i + 1
next_asked (suc i) false = 0
