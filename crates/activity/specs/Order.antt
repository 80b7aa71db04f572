-- An order as it is made, and with one thing changed.
use Rattle.std.specs.Prelude.{ℕ, ◌+◌, Bool, cond, List, replicate, nat_lt, slice_set, Option}
use Rattle.calendar.specs.declared.Calendar.{Calendar}
use Rattle.activity.specs.declared.ActivityDuration.{ActivityDuration}
use Rattle.activity.specs.declared.ResourceTiming.{ResourceTiming}
use Rattle.activity.specs.declared.ResourceRequirement.{ResourceRequirement}
use Rattle.activity.specs.declared.Activity.{Activity}
use Rattle.activity.specs.Durations.{untimed}
use Rattle.activity.specs.Check.{no_requirement}

-- an order with no requirement and no timing
unfoldable pub order_with : ℕ → ActivityDuration → Bool → Option ℕ → Calendar → ℕ → Activity
order_with category duration resumable release calendar origins = record {
  category = category;
  duration = duration;
  resumable = resumable;
  release = release;
  calendar = calendar;
  origins = origins;
  requirements = replicate 4 no_requirement;
  len = 0;
  timings = replicate 16 untimed;
}

-- the order with another release
abbrev pub with_release : Activity → Option ℕ → Activity
with_release a release = record {
  category = a.category;
  duration = a.duration;
  resumable = a.resumable;
  release = release;
  calendar = a.calendar;
  origins = a.origins;
  requirements = a.requirements;
  len = a.len;
  timings = a.timings;
}

-- the order with other requirements, of which the first n count
abbrev pub with_requirements : Activity → List ResourceRequirement → ℕ → Activity
with_requirements a qs n = record {
  category = a.category;
  duration = a.duration;
  resumable = a.resumable;
  release = a.release;
  calendar = a.calendar;
  origins = a.origins;
  requirements = qs;
  len = n;
  timings = a.timings;
}

-- the order with other timings
abbrev pub with_timings : Activity → List ResourceTiming → Activity
with_timings a ts = record {
  category = a.category;
  duration = a.duration;
  resumable = a.resumable;
  release = a.release;
  calendar = a.calendar;
  origins = a.origins;
  requirements = a.requirements;
  len = a.len;
  timings = ts;
}

-- one requirement more: four are kept; from the fifth on only the count tells, up to 5, which stands for any above
unfoldable pub with_requirement : Activity → ResourceRequirement → Activity
with_requirement a q =
    with_requirements a
    (cond (nat_lt a.len 4) (slice_set a.requirements a.len q) a.requirements)
    (cond (nat_lt a.len 5) (a.len + 1) a.len)

-- the timing on the resource of a number
abbrev pub with_timing : Activity → ℕ → ResourceTiming → Activity
with_timing a number timing = with_timings a (slice_set a.timings number timing)
