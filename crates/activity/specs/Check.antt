-- 01, the replies of 'Placing': the checks of an order, and the reply of asking for its durations.
use Rattle.std.specs.Prelude.{ℕ, ◌+◌, Bool, true, cond, not, ◌&&◌, ◌||◌, leb, List, [], ◌∷◌, take, nat_le, nat_lt, Option, Some, None, Result, Ok, Err}
use Rattle.calendar.specs.Refusals.{refused_or}
use Rattle.cells.specs.Every.{every}
use Rattle.calendar.specs.Limits.{last_instant, longest_duration, most_units}
use Rattle.calendar.specs.Valid.{valid}
use Rattle.activity.specs.declared.ActivityDuration.{ActivityDuration}
use Rattle.activity.specs.declared.ResourceTiming.{ResourceTiming}
use Rattle.activity.specs.declared.ResourceTiming.TheVariants.{Nothing, Speed, Duration}
use Rattle.activity.specs.declared.ResourceRequirement.{ResourceRequirement}
use Rattle.activity.specs.declared.Activity.{Activity}
use Rattle.calendar.specs.declared.refusal.Refusal.{Refusal}
use Rattle.calendar.specs.Replies.{number_of}
use Rattle.activity_speeds.specs.Speeds.{is_speed}
use Rattle.activity.specs.Durations.{duration_on}

-- an instant is 0 to 2^42; an absent release is not checked
unfoldable pub release_right : Option ℕ → Bool
release_right None = true
release_right (Some release) = nat_le release last_instant

-- setup, process, teardown: 0 to 2^36 each
unfoldable pub short : ActivityDuration → Bool
short d = nat_le d.setup longest_duration && (nat_le d.process longest_duration && nat_le d.teardown longest_duration)

abbrev pub timing_short : ResourceTiming → Bool
timing_short Nothing = true
timing_short (Speed s) = true
timing_short (Duration d) = short d

-- a speed is 0.25 to 4, and a number
abbrev pub timing_speed : ResourceTiming → Bool
timing_speed Nothing = true
timing_speed (Speed s) = is_speed s
timing_speed (Duration d) = true

-- the total of the quantities
unfoldable pub quantity : List ResourceRequirement → ℕ
quantity [] = 0
quantity (q ∷ qs) = q.quantity + quantity qs

-- each quantity ≥ 1, total at most 8
abbrev pub quantity_right : ResourceRequirement → Bool
quantity_right q = nat_le 1 q.quantity

unfoldable pub quantities_right : List ResourceRequirement → Bool
quantities_right qs = every quantity_right qs && nat_le (quantity qs) 8

-- units 1 to 10,000
unfoldable pub usage_right : ResourceRequirement → Bool
usage_right q = nat_le 1 q.usage && nat_le q.usage most_units

-- a requirement of nothing, which stands past the last one
abbrev pub no_requirement : ResourceRequirement
no_requirement = record { kind = 0; candidates = 0; skills = 0; quantity = 0; usage = 0 }

-- the requirements that count
abbrev pub requirements_of : Activity → List ResourceRequirement
requirements_of a = take a.len a.requirements

-- ready, release and every duration of the order are in range
unfoldable pub times_right : Activity → ℕ → Bool
times_right a ready =
    nat_le ready last_instant
    && (release_right a.release && (short a.duration && every timing_short a.timings))

-- 5 category; 1 ready, release or a duration; 6 requirements over 4, a quantity under 1 or total over 8; 3 usage; 8 speed; 0 for none
unfoldable pub activity_refusal : Activity → ℕ → ℕ
activity_refusal a ready =
    cond (nat_lt 15 a.category) 5
    (cond (not (times_right a ready)) 1
    (cond (nat_lt 4 a.len || not (quantities_right (requirements_of a))) 6
    (cond (not (every usage_right (requirements_of a))) 3
    (cond (not (every timing_speed a.timings)) 8 0))))

-- 15 before all else: an own calendar that breaks the rules
unfoldable pub check_reply : Activity → ℕ → ℕ
check_reply a ready = cond (not (valid a.calendar)) 15 (activity_refusal a ready)

-- at most eight are held, each with a resource's number
unfoldable pub held_right : List ℕ → ℕ → Bool
held_right held count = nat_le count 8 && every (λ n. leb n 15) (take count held)

-- what asking for the durations replies: the three of them, or a refusal's number
pub data DurationReply : Type 0 where
  lasts : ActivityDuration → DurationReply
  refused : ℕ → DurationReply

unfoldable pub reply_of : Result ActivityDuration Refusal → DurationReply
reply_of (Ok d) = lasts d
reply_of (Err e) = refused (number_of e)

-- 15 before all else; 5 the numbers held; then the order's own refusals, at ready 0
unfoldable pub duration_reply : Activity → List ℕ → ℕ → DurationReply
duration_reply a held count =
    cond (not (valid a.calendar)) (refused 15)
    (cond (not (held_right held count)) (refused 5)
    (refused_or refused (activity_refusal a 0) (lasts (duration_on a.duration a.timings (take count held)))))
