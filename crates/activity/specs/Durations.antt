-- 01, 'Durations, setups, transport': the durations of an order over several resources in holding order.
use Rattle.std.specs.Prelude.{ℕ, ◌+◌, cond, List, [], ◌∷◌, map, nat_lt, slice_index_or}
use Rattle.std.specs.Prelude.{Float}
use Rattle.std.specs.Float.{binary64}
use Rattle.std.specs.Float.Ieee.{mul}
use Rattle.activity.specs.declared.ActivityDuration.{ActivityDuration}
use Rattle.activity.specs.declared.ResourceTiming.{ResourceTiming}
use Rattle.activity.specs.declared.ResourceTiming.TheVariants.{Nothing, Speed, Duration}
use Rattle.activity_speeds.specs.Speeds.{one, process_at}

-- what stands past the end of a list of timings
abbrev pub untimed : ResourceTiming
untimed = Nothing

-- the timing of a resource, by its number
abbrev pub timing_of : List ResourceTiming → ℕ → ResourceTiming
timing_of timings number = slice_index_or timings number untimed

-- the timings of the resources held; a number held twice counts twice
abbrev pub held_timings : List ResourceTiming → List ℕ → List ResourceTiming
held_timings timings held = map (timing_of timings) held

abbrev pub total : ActivityDuration → ℕ
total d = d.setup + d.process + d.teardown

-- the own durations that lead so far, if any has them
pub data Leading : Type 0 where
  nobody : Leading
  owned : ActivityDuration → Leading

-- own durations of greatest total win, the first among equals: what leads so far gives way to a greater total only
abbrev pub greater : Leading → ResourceTiming → Leading
greater lead Nothing = lead
greater lead (Speed s) = lead
greater nobody (Duration d) = owned d
greater (owned f) (Duration d) = cond (nat_lt (total f) (total d)) (owned d) (owned f)

unfoldable pub greatest : Leading → List ResourceTiming → Leading
greatest lead [] = lead
greatest lead (t ∷ ts) = greatest (greater lead t) ts

-- speeds multiply, each product rounded
abbrev pub times : Float → ResourceTiming → Float
times p Nothing = p
times p (Speed s) = mul binary64 p s
times p (Duration d) = p

unfoldable pub product : Float → List ResourceTiming → Float
product p [] = p
product p (t ∷ ts) = product (times p t) ts

-- if any has own durations, those; else the base with the process time at the product of the speeds
abbrev pub settled : ActivityDuration → Float → Leading → ActivityDuration
settled base speed (owned d) = d
settled base speed nobody = record { setup = base.setup; process = process_at base.process speed; teardown = base.teardown }

-- the speeds multiply from 1.0
unfoldable pub duration_on : ActivityDuration → List ResourceTiming → List ℕ → ActivityDuration
duration_on base timings held = settled base (product one (held_timings timings held)) (greatest nobody (held_timings timings held))
