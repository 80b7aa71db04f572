-- 01, 'Diary': the least start of an unbroken span and of resumable work.
use Rattle.std.specs.Prelude.{ℕ, suc, ◌+◌, ◌-◌, max, Bool, false, ◌&&◌, [], ◌∷◌}
use Rattle.calendar.specs.Search.{Found, nothing, at, least_from}
use Rattle.calendar.specs.Fits.{fits}
use Rattle.calendar.specs.Work.{joint_end, last_change}
use Rattle.timeline.specs.declared.ResourceTimeline.{ResourceTimeline}
use Rattle.timeline.specs.Bookings.{bookings, latest_end}
use Rattle.timeline.specs.Free.{free}

-- u units are free on the diary over [s, e)
abbrev pub free_on : ResourceTimeline → ℕ → ℕ → ℕ → Bool
free_on t u s e = free t.capacity (bookings t) u s e

-- the span fits at s: the calendar fits it and u is free
unfoldable pub fits_at : ResourceTimeline → ℕ → ℕ → ℕ → Bool
fits_at t span u s = fits t.calendar s (s + span) && free_on t u s (s + span)

-- u is free from s up to the work's end
unfoldable pub free_to : ResourceTimeline → ℕ → ℕ → Found → Bool
free_to t u s nothing = false
free_to t u s (at e) = free_on t u s e

-- work can start at s: a working start where u is free up to the work's end, pauses included
unfoldable pub starts_at : ResourceTimeline → ℕ → ℕ → ℕ → Bool
starts_at t work u s = free_to t u s (joint_end (t.calendar ∷ []) s work)

-- from here on neither the calendar nor the bookings change any more: what fits later fits here too
unfoldable pub last_event : ResourceTimeline → ℕ
last_event t = max (last_change (t.calendar ∷ [])) (latest_end (bookings t))

-- `earliest_fit`: the least start ≥ from where the span fits
unfoldable pub earliest_fit : ResourceTimeline → ℕ → ℕ → ℕ → Found
earliest_fit t from span u = least_from (fits_at t span u) from (suc (last_event t - from))

-- `earliest_resumable`: the least working start ≥ from where the work can start
unfoldable pub earliest_resumable : ResourceTimeline → ℕ → ℕ → ℕ → Found
earliest_resumable t from work u = least_from (starts_at t work u) from (suc (last_event t - from))
