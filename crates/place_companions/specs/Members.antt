-- The one of a resource and its companions that is asked next, as the code keeps it.
use Rattle.std.specs.Prelude.{ℕ, max, cond, List, take, nat_lt, None}
use Rattle.activity.specs.declared.ResourceRequirement.{ResourceRequirement}
use Rattle.activity.specs.Serving.{serves}
use Rattle.place_plans.specs.declared.Plan.{Plan}
use Rattle.place_companions.specs.Seats.{seat_of}
use Rattle.place_companions.specs.declared.Asking.{Asking}
use Rattle.place_companions.specs.declared.Member.{Member}

-- the resource itself with the requirement's usage, a companion with one unit; from the later of t and the arrival, or from the start that
-- those in front have given
unfoldable pub member_of : ResourceRequirement → Plan → ℕ → List ℕ → ℕ → Asking → Member
member_of q p own places t g =
    record {
      place = cond (serves q p.number p.kind p.skills) (seat_of own (take p.count p.companions) places g.next) None;
      units = cond (nat_lt 0 g.next) 1 q.usage;
      from = max (max t p.arrival) g.start;
    }
