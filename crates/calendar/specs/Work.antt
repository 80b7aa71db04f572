-- 01, 'Calendar': working time, joint working time, and when resumable work ends.
use Rattle.std.specs.Prelude.{ℕ, zero, suc, ◌+◌, ◌-◌, max, Bool, true, false, not, ◌&&◌, List, map}
use Rattle.calendar.specs.declared.Calendar.{Calendar}
use Rattle.calendar.specs.Search.{Found, nothing, at, greatest_of}
use Rattle.cells.specs.Every.{every}
use Rattle.calendar.specs.Spans.{Span, spans, any, contains}
use Rattle.calendar.specs.Fits.{open_for}

-- millisecond p is working time: inside some window (or there are none) and no block
unfoldable pub working : Calendar → ℕ → Bool
working c p = open_for (contains p) (spans c.windows) && not (any (contains p) (spans c.blocks))

-- joint working time is what all named calendars share
unfoldable pub joint : List Calendar → ℕ → Bool
joint cs p = every (λ c. working c p) cs

-- w milliseconds of work, from p on and within n milliseconds: each millisecond of W takes one off, and the end is one past the last
unfoldable pub end_from : (ℕ → Bool) → ℕ → ℕ → ℕ → Found
end_from W p zero n = at p
end_from W p (suc w) zero = nothing
end_from W p (suc w) (suc n) = elim (W p) [ true ↦ end_from W (suc p) w n | false ↦ end_from W (suc p) (suc w) n ]

-- nothing from a start in a pause, or with too little time left. From `last` on W changes no more, so that no end lies beyond the
-- milliseconds tried (WorkEnds.antt, `work-end-same`: which `last` is given makes no difference)
unfoldable pub work_end : ℕ → (ℕ → Bool) → ℕ → ℕ → Found
work_end last W p w = elim (W p) [ true ↦ end_from W p w (last - p + w) | false ↦ nothing ]

-- the latest end of a list of spans, 0 where there are none
unfoldable pub latest : List Span → ℕ
latest ws = greatest_of (map (λ w. w.end) ws)

-- from here on none of the calendars changes any more: the latest end of a window or a block
unfoldable pub last_change : List Calendar → ℕ
last_change cs = greatest_of (map (λ c. max (latest (spans c.windows)) (latest (spans c.blocks))) cs)

-- `work_end` over the joint working time of some calendars
abbrev pub joint_end : List Calendar → ℕ → ℕ → Found
joint_end cs p w = work_end (last_change cs) (joint cs) p w
