-- Kinds 21 to 24: the order in hand. Its values are taken unchecked; placing checks them.
use Rattle.std.specs.Prelude.{ℕ, ◌+◌, Bool, cond, ◌||◌, List, pos, ltb, eqb, Option, Some, None}
use Rattle.std.specs.Float.{binary64}
use Rattle.std.specs.Float.Ieee.{of_bits}
use Rattle.calendar.specs.declared.Calendar.{Calendar}
use Rattle.calendar.specs.Add.{empty}
use Rattle.timeline.specs.Diary.{new_diary}
use Rattle.record_bodies.specs.Numbers.{little}
use Rattle.activity.specs.declared.ActivityDuration.{ActivityDuration}
use Rattle.activity.specs.declared.ResourceTiming.{ResourceTiming}
use Rattle.activity.specs.declared.ResourceTiming.TheVariants.{Speed, Duration}
use Rattle.activity.specs.declared.ResourceRequirement.{ResourceRequirement}
use Rattle.activity.specs.declared.Activity.{Activity}
use Rattle.record_desk.specs.declared.Desk.{Desk}
use Rattle.record_board.specs.Replies.{DeskStepped, Ordered}
use Rattle.activity.specs.Order.{order_with, with_requirement, with_timing}
use Rattle.record_desk.specs.Desk.{with_diary, with_order}
use Rattle.record_bodies.specs.Bodies.{byte}

-- setup, process, teardown (8 each)
abbrev pub duration_at : List ℕ → ℕ → ActivityDuration
duration_at bs i = record { setup = little bs i 8; process = little bs (i + 8) 8; teardown = little bs (i + 16) 8 }

unfoldable pub release_of : ℕ → ℕ → Option ℕ
release_of present release = cond (eqb present 1) (Some release) None

-- the order of a body: category (1), three durations, resumable (1), release present (1), release (8), come from (2), own calendar (1)
unfoldable pub order_by : List ℕ → ℕ → Calendar → Activity
order_by bs i c =
    order_with (byte bs i) (duration_at bs (i + 1)) (eqb (byte bs (i + 25)) 1) (release_of (byte bs (i + 26)) (little bs (i + 27) 8)) c
    (little bs (i + 35) 2)

unfoldable pub order_at : Desk → List ℕ → ℕ → Activity
order_at d bs i = order_by bs i (cond (eqb (byte bs (i + 37)) 0) empty d.timeline.calendar)

-- one of its three flags is above 1
abbrev pub flag_above : List ℕ → ℕ → Bool
flag_above bs i = ltb 1 (byte bs (i + 25)) || (ltb 1 (byte bs (i + 26)) || ltb 1 (byte bs (i + 37)))

-- a flag above 1: 9; where the calendar was taken, the diary in hand is empty again
unfoldable pub order_does : Desk → List ℕ → ℕ → DeskStepped
order_does d bs i =
    cond (flag_above bs i) (record { desk = d; refusal = 9 })
    (record {
      desk = with_order (with_diary d (cond (eqb (byte bs (i + 37)) 0) d.timeline (new_diary (pos 1)))) (order_at d bs i);
      refusal = 0;
    })

-- type (1), candidates (2), skills (8), quantity (4), usage (4)
abbrev pub requirement_at : List ℕ → ℕ → ResourceRequirement
requirement_at bs i = record {
  kind = byte bs i;
  candidates = little bs (i + 1) 2;
  skills = little bs (i + 3) 8;
  quantity = little bs (i + 11) 4;
  usage = little bs (i + 15) 4;
}

-- kind 23: a speed, the bits of a double (8); kind 24: three durations
unfoldable pub timing_at : ℕ → List ℕ → ℕ → ResourceTiming
timing_at kind bs i = cond (eqb kind 23) (Speed (of_bits binary64 (little bs (i + 1) 8))) (Duration (duration_at bs (i + 1)))

-- a timing, its number above 15 refused 5
abbrev pub timed : Activity → ℕ → ResourceTiming → Ordered
timed a number t = cond (ltb 15 number) (record { refusal = 5; activity = a }) (record { refusal = 0; activity = with_timing a number t })

-- kind 22 one requirement more; 23 and 24 a timing, its number (1) above 15 refused 5
unfoldable pub part_reply : Activity → ℕ → List ℕ → ℕ → Ordered
part_reply a kind bs i =
    cond (eqb kind 22) (record { refusal = 0; activity = with_requirement a (requirement_at bs i) })
    (timed a (byte bs i) (timing_at kind bs i))
