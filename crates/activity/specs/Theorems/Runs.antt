-- Durations, the edges of speeds and of an order, and who serves, on the definitions: what the marked runs do not show.
use Rattle.std.specs.Prelude.{◌≡◌, ℕ, ◌^◌, true, false, [], ◌∷◌, pos, negsuc, None}
use Rattle.std.specs.Prelude.{refl, Float}
use Rattle.std.specs.Float.{nan, inf, fin, binary64}
use Rattle.std.specs.Float.Ieee.{of_bits, le, eq, mul, div, of_int}
use Rattle.calendar.specs.Add.{empty}
use Rattle.activity.specs.declared.ActivityDuration.{ActivityDuration}
use Rattle.activity.specs.declared.ResourceTiming.{ResourceTiming}
use Rattle.activity.specs.declared.ResourceTiming.TheVariants.{Speed, Duration}
use Rattle.activity.specs.declared.Activity.{Activity}
use Rattle.activity_speeds.specs.Speeds.{one, quarter, four, half_up, round_away, process_at, is_speed}
use Rattle.activity.specs.Durations.{untimed, greatest, product, duration_on}
use Rattle.calendar.specs.Sets.{bit}
use Rattle.activity.specs.Serving.{covers, candidate, serves}
use Rattle.cells.specs.Every.{every}
use Rattle.activity.specs.Check.{release_right, short, quantity, quantities_right, usage_right, times_right, activity_refusal}
use Rattle.activity.specs.Order.{order_with, with_requirements, with_timings}

-- 2.0, 0.5
abbrev pub two : Float
two = fin false 1 (pos 1)

abbrev pub half : Float
half = fin false 1 (negsuc 0)

abbrev pub lasting : ℕ → ℕ → ℕ → ActivityDuration
lasting s p t = record { setup = s; process = p; teardown = t }

abbrev pub at : Float → ResourceTiming
at s = Speed s

abbrev pub own : ℕ → ℕ → ℕ → ResourceTiming
own s p t = Duration (lasting s p t)

-- a speed leaves setup and teardown · one resource held twice · no timing · own durations: the greatest total wins, the first among
-- equals, and speeds beside them do not count
pub durations :
    (duration_on (lasting 3 100 4) (at two ∷ at half ∷ []) (1 ∷ [])
    ∷ duration_on (lasting 0 100 0) (at two ∷ at half ∷ []) (0 ∷ 0 ∷ [])
    ∷ duration_on (lasting 3 100 4) (at two ∷ untimed ∷ []) (1 ∷ 5 ∷ [])
    ∷ duration_on (lasting 0 100 0) (own 1 2 3 ∷ own 2 2 2 ∷ at two ∷ []) (2 ∷ 0 ∷ 1 ∷ [])
    ∷ duration_on (lasting 0 100 0) (own 1 2 3 ∷ own 2 2 2 ∷ at two ∷ []) (2 ∷ 1 ∷ 0 ∷ [])
    ∷ duration_on (lasting 0 100 0) (own 1 2 3 ∷ own 2 2 3 ∷ []) (0 ∷ 1 ∷ [])
    ∷ [])
    ≡ lasting 3 200 4
    ∷ lasting 0 25 0
    ∷ lasting 3 100 4
    ∷ lasting 1 2 3
    ∷ lasting 2 2 2
    ∷ lasting 2 2 3
    ∷ []
unfolding half_up round_away process_at greatest product duration_on eq mul div of_int
durations = refl

-- ties go away from zero, on either side of an even number; the double below a half goes down
pub ties :
    (round_away (fin false 1 (negsuc 0)) ∷ round_away (fin false 3 (negsuc 0)) ∷ round_away (fin false 5 (negsuc 0))
    ∷ round_away (of_bits binary64 0x3fdf_ffff_ffff_ffff) ∷ [])
    ≡ 1 ∷ 2 ∷ 3 ∷ 0 ∷ []
unfolding half_up round_away of_bits
ties = refl

-- what is a speed: 0.25, 1 and 4; and what is none: the doubles next to the ends, a NaN, the infinities, a zero, a negative number
pub speeds :
    (is_speed quarter ∷ is_speed one ∷ is_speed four
    ∷ is_speed (of_bits binary64 0x4010_0000_0000_0001) ∷ is_speed (of_bits binary64 0x3fcf_ffff_ffff_ffff)
    ∷ is_speed nan ∷ is_speed (inf false) ∷ is_speed (inf true) ∷ is_speed (fin false 0 (pos 0)) ∷ is_speed (fin true 1 (pos 0)) ∷ [])
    ≡ true ∷ true ∷ true ∷ false ∷ false ∷ false ∷ false ∷ false ∷ false ∷ false ∷ []
unfolding is_speed le of_bits
speeds = refl

-- an order with one requirement and timing
abbrev order : ℕ → ℕ → ℕ → ℕ → ResourceTiming → Activity
order category process quantity usage timing =
    let bare = order_with category (lasting 0 process 0) false None empty 0 in
    let wanted = with_requirements bare (record { kind = 0; candidates = 0; skills = 0; quantity = quantity; usage = usage } ∷ []) 1 in
    with_timings wanted (timing ∷ [])

-- the last value taken and the first refused, of each; speed 4, the double behind it, a NaN
pub edges :
    (activity_refusal (order 15 (2 ^ 36) 8 10000 (Speed four)) (2 ^ 42)
    ∷ activity_refusal (order 16 (2 ^ 36) 8 10000 (Speed four)) (2 ^ 42)
    ∷ activity_refusal (order 15 (2 ^ 36) 8 10000 (Speed four)) 4398046511105
    ∷ activity_refusal (order 15 68719476737 8 10000 (Speed four)) (2 ^ 42)
    ∷ activity_refusal (order 15 0 8 10000 (Duration (lasting 0 0 68719476737))) 0
    ∷ activity_refusal (order 15 0 9 10000 (Speed four)) 0
    ∷ activity_refusal (order 15 0 0 10000 (Speed four)) 0
    ∷ activity_refusal (order 15 0 1 0 (Speed four)) 0
    ∷ activity_refusal (order 15 0 1 10001 (Speed four)) 0
    ∷ activity_refusal (order 15 0 1 1 (Speed (of_bits binary64 0x4010_0000_0000_0001))) 0
    ∷ activity_refusal (order 15 0 1 1 (Speed nan)) 0
    ∷ [])
    ≡ 0 ∷ 5 ∷ 1 ∷ 1 ∷ 1 ∷ 6 ∷ 6 ∷ 3 ∷ 3 ∷ 8 ∷ 8 ∷ []
unfolding is_speed le of_bits every release_right short quantity quantities_right usage_right times_right activity_refusal order_with
edges = refl

-- a candidate whatever its type; a type where no candidate is named; every skill, not some
pub serving :
    (serves (record { kind = 1; candidates = 4; skills = 5; quantity = 1; usage = 1 }) 2 9 7
    ∷ serves (record { kind = 1; candidates = 4; skills = 5; quantity = 1; usage = 1 }) 1 1 7
    ∷ serves (record { kind = 1; candidates = 0; skills = 5; quantity = 1; usage = 1 }) 1 1 7
    ∷ serves (record { kind = 1; candidates = 0; skills = 5; quantity = 1; usage = 1 }) 1 9 7
    ∷ serves (record { kind = 1; candidates = 0; skills = 5; quantity = 1; usage = 1 }) 1 1 4
    ∷ [])
    ≡ true ∷ false ∷ true ∷ false ∷ false ∷ []
unfolding bit covers candidate serves
serving = refl
