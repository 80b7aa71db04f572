-- What the functions behind the checks may take for granted of an order (`accepted` in Laws/Judging.antt: an order that is
-- not refused is lawful).
use Rattle.std.specs.Prelude.{◌≡◌, ℕ, ◌≤◌, true, List, Option, Some, None}
use Rattle.calendar.specs.Limits.{longest_duration}
use Rattle.activity.specs.declared.ActivityDuration.{ActivityDuration}
use Rattle.activity.specs.declared.ResourceTiming.{ResourceTiming}
use Rattle.activity.specs.declared.ResourceTiming.TheVariants.{Nothing, Speed, Duration}
use Rattle.activity_speeds.specs.Speeds.{is_speed}
use Rattle.activity.specs.Durations.{timing_of, Leading, nobody, owned}

-- each of the three is at most 2 ^ 36
pub record Short (d : ActivityDuration) : Type 0 where
  pub setup_range : d.setup ≤ longest_duration
  pub process_range : d.process ≤ longest_duration
  pub teardown_range : d.teardown ≤ longest_duration

abbrev pub LawfulTiming : ResourceTiming → Type 0
LawfulTiming Nothing = Unit
LawfulTiming (Speed s) = is_speed s ≡ true
LawfulTiming (Duration d) = Short d

abbrev pub LawfulLead : Leading → Type 0
LawfulLead nobody = Unit
LawfulLead (owned d) = Short d

-- what the code's enum says
abbrev pub leading_of : Option ActivityDuration → Leading
leading_of None = nobody
leading_of (Some d) = owned d

-- the base is short, and the timing of every number is a speed that is taken, short durations, or nothing
pub record Lawful (base : ActivityDuration) (timings : List ResourceTiming) : Type 0 where
  pub base_short : Short base
  pub each : (number : ℕ) → LawfulTiming (timing_of timings number)
