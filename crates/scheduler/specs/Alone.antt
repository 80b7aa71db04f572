-- 'Choosing', its first half: what each serving resource answers alone, with its companions.
use Rattle.std.specs.Prelude.{ℕ, suc, ◌+◌, ◌-◌, max, Bool, cond, List, [], ◌∷◌, map, take}
use Rattle.calendar.specs.Search.{Found, nothing, at, least_from, greatest_of}
use Rattle.timeline.specs.declared.ResourceTimeline.{ResourceTimeline}
use Rattle.timeline.specs.Earliest.{fits_at, starts_at, last_event}
use Rattle.activity.specs.declared.ActivityDuration.{ActivityDuration}
use Rattle.activity.specs.declared.ResourceRequirement.{ResourceRequirement}
use Rattle.activity.specs.declared.Activity.{Activity}
use Rattle.activity.specs.Durations.{duration_on}
use Rattle.cells.specs.Every.{every}
use Rattle.board.specs.declared.Resource.{Resource}
use Rattle.board.specs.declared.Board.{Board}
use Rattle.board.specs.Resources.{no_resource, resource_at, lookup, on_board}
use Rattle.board.specs.Setups.{setup_on}
use Rattle.board.specs.Transport.{transport_to}
use Rattle.activity.specs.Serving.{serves}

-- units wanted of a diary
pub record Share : Type 0 where
  pub timeline : ResourceTimeline
  pub units : ℕ

-- the span can start at s there: unbroken, or in resumable work on the diary's own calendar alone
unfoldable pub can_start : Bool → ℕ → Share → ℕ → Bool
can_start resumable span x s = cond resumable (starts_at x.timeline span x.units s) (fits_at x.timeline span x.units s)

-- and on each of several diaries
unfoldable pub all_start : Bool → ℕ → List Share → ℕ → Bool
all_start resumable span xs s = every (λ x. can_start resumable span x s) xs

-- from here on nothing changes on any of them
unfoldable pub last_of : List Share → ℕ
last_of xs = greatest_of (map (λ x. last_event x.timeline) xs)

-- the least start ≥ from on all of them (the bound cuts nothing off: Together.antt, `together-answers`)
unfoldable pub earliest_of : Bool → ℕ → List Share → ℕ → Found
earliest_of resumable span xs from = least_from (all_start resumable span xs) from (suc (last_of xs - from))

-- the resource with this number
unfoldable pub resource_in : Board → Found → Resource
resource_in b nothing = no_resource
resource_in b (at i) = resource_at b i

abbrev pub diary_of : Board → ℕ → ResourceTimeline
diary_of b number = (resource_in b (lookup b number)).timeline

-- the companions of a resource, in order
abbrev pub companions_of : Resource → List ℕ
companions_of r = take r.count r.companions

abbrev pub one_unit : Board → ℕ → Share
one_unit b number = record { timeline = diary_of b number; units = 1 }

-- a resource with the requirement's usage, and its companions, one unit each
unfoldable pub with_companions : Board → Resource → ℕ → List Share
with_companions b r usage = record { timeline = r.timeline; units = usage } ∷ map (one_unit b) (companions_of r)

-- its own durations and span: its setup + its process + its teardown
unfoldable pub duration_alone : Activity → Resource → ActivityDuration
duration_alone a r = duration_on a.duration a.timings (r.number ∷ [])

unfoldable pub span_of : ℕ → ActivityDuration → ℕ
span_of setup d = setup + d.process + d.teardown

abbrev pub span_alone : Activity → Resource → ℕ
span_alone a r = span_of (setup_on r a.category (duration_alone a r).setup) (duration_alone a r)

-- its arrival: ready, and the transport to it
unfoldable pub arrival : Board → Activity → ℕ → Resource → ℕ
arrival b a ready r = ready + transport_to b a.origins r.number

-- the least start of a span from an instant on where its companions also fit; a companion not on the board rules it out
unfoldable pub start_with : Board → Resource → ℕ → Bool → ℕ → ℕ → Found
start_with b r usage resumable span from =
    cond (every (on_board b) (companions_of r)) (earliest_of resumable span (with_companions b r usage) from) nothing

-- its least start from the later of t and its arrival
unfoldable pub start_alone : Board → Activity → ℕ → ResourceRequirement → Resource → ℕ → Found
start_alone b a ready q r t = start_with b r q.usage a.resumable (span_alone a r) (max t (arrival b a ready r))

-- what it answers to a requirement: nothing where it does not serve
abbrev pub served : Board → Activity → ℕ → ResourceRequirement → Resource → ℕ → Found
served b a ready q r t = cond (serves q r.number r.kind r.skills) (start_alone b a ready q r t) nothing
