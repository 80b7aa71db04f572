-- The instants at which something can first start (01: 'at most 2,129 instants can occur'): a window start, a block end, a booking end of
-- some diary, or an arrival; and the Rust's rounds over several diaries, from an instant to the latest of their least starts.
use Rattle.std.specs.Prelude.{Bool, cond, List, [], ◌∷◌, ◌++◌, map, ℕ, zero, suc, ◌+◌, max, take, ltb, eqb}
use Rattle.timeline.specs.declared.ResourceTimeline.{ResourceTimeline}
use Rattle.calendar.specs.Search.{Found, at, nothing}
use Rattle.scheduler.specs.Alone.{Share, arrival}
use Rattle.activity.specs.declared.Activity.{Activity}
use Rattle.board.specs.declared.Board.{Board}
use Rattle.board.specs.Resources.{resources_of}
use Rattle.scheduler.specs.Shares.{start_on}

-- on one diary: window starts, block ends, booking ends
unfoldable pub events : ResourceTimeline → List ℕ
events t =
    take t.calendar.windows.len t.calendar.windows.starts
    ++ (take t.calendar.blocks.len t.calendar.blocks.ends ++ take t.len t.ends)

-- on several diaries
unfoldable pub events_in : List ResourceTimeline → List ℕ
events_in [] = []
events_in (t ∷ ts) = events t ++ events_in ts

abbrev pub events_of : List Share → List ℕ
events_of xs = events_in (map (λ x. x.timeline) xs)

-- how many of a list lie after t
unfoldable pub above : List ℕ → ℕ → ℕ
above [] t = 0
above (x ∷ l) t = cond (ltb t x) 1 0 + above l t

-- the events on all diaries of a board
unfoldable pub events_on : Board → List ℕ
events_on b = events_in (map (λ r. r.timeline) (resources_of b))

-- the instants at which a resource can first start: its arrival, or an event on some diary
unfoldable pub points : Board → Activity → ℕ → List ℕ
points b a ready = map (arrival b a ready) (resources_of b) ++ events_on b

-- the latest of the least starts from t on; nothing where one has none
unfoldable pub later : Found → Found → Found
later nothing g = nothing
later (at a) nothing = nothing
later (at a) (at b) = at (max a b)

unfoldable pub latest_of : Bool → ℕ → List Share → ℕ → Found
latest_of resumable span [] t = at t
latest_of resumable span (x ∷ xs) t = later (start_on resumable span x t) (latest_of resumable span xs t)

-- from an instant to the latest of the least starts from it, until it stays; at most n times
unfoldable pub stepped : ℕ → Found → (ℕ → Found) → Found
stepped t nothing again = nothing
stepped t (at u) again = cond (eqb u t) (at t) (again u)

unfoldable pub steps : ℕ → (ℕ → Found) → ℕ → Found
steps zero L t = nothing
steps (suc n) L t = stepped t (L t) (steps n L)
