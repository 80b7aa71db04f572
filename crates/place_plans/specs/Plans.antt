-- What an order needs of each resource alone, as the code keeps it, by the resource's place on the board.
use Rattle.std.specs.Prelude.{◌≡◌, ℕ, ◌+◌, ◌<◌, ◌≤◌, List, [], length, replicate, slice_index_or, None}
use Rattle.std.specs.Bool.{then_some}
use Rattle.calendar.specs.Limits.{last_asked}
use Rattle.activity.specs.declared.Activity.{Activity}
use Rattle.board.specs.declared.Resource.{Resource}
use Rattle.board.specs.declared.Board.{Board}
use Rattle.board.specs.Resources.{resource_at}
use Rattle.board.specs.Setups.{setup_on}
use Rattle.board.specs.Transport.{greatest_transport}
use Rattle.board.specs.Places.{anywhere}
use Rattle.scheduler.specs.Alone.{duration_alone, span_alone, arrival}
use Rattle.place_plans.specs.declared.Plan.{Plan}

-- what is read past an array's end
abbrev pub no_plan : Plan
no_plan = record {
  number = 0;
  kind = 0;
  skills = 0;
  companions = [];
  count = 0;
  span = 0;
  process = 0;
  arrival = 0;
  setup = None;
}

-- before anything is planned
abbrev pub blank_plan : Plan
blank_plan = record {
  number = 0;
  kind = 0;
  skills = 0;
  companions = replicate 4 0;
  count = 0;
  span = 0;
  process = 0;
  arrival = 0;
  setup = None;
}

-- the plan of a resource that is reached at an instant
unfoldable pub plan_with : Activity → Resource → ℕ → Plan
plan_with a r arrives =
    record {
      number = r.number;
      kind = r.kind;
      skills = r.skills;
      companions = r.companions;
      count = r.count;
      span = span_alone a r;
      process = (duration_alone a r).process;
      arrival = arrives;
      setup = then_some r.matrix.present (setup_on r a.category 0);
    }

-- when a resource is reached from ready on, by the transport to it from where the order comes from
abbrev pub arrival_by : List ℕ → Activity → ℕ → Resource → ℕ
arrival_by transport a ready r = ready + greatest_transport anywhere transport a.origins r.number 16

-- it is reached by 2^43, the last instant that may be asked
abbrev pub InReach : List ℕ → Activity → ℕ → Resource → Type 0
InReach transport a ready r = arrival_by transport a ready r ≤ last_asked

abbrev pub plan_of : Board → Activity → ℕ → Resource → Plan
plan_of b a ready r = plan_with a r (arrival b a ready r)

-- the plans of the first n places are those of their resources
pub record Planned (b : Board) (a : Activity) (ready : ℕ) (n : ℕ) (plans : List Plan) : Type 0 where
  pub long : length plans ≡ 16
  pub so : (i : ℕ) → i < n → slice_index_or plans i no_plan ≡ plan_of b a ready (resource_at b i)
