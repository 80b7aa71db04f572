-- What is asked of one resource: its least start for a requirement, by its plan.
use Rattle.std.specs.Prelude.{◌≡◌, ℕ, ◌≤◌, ◌<◌, true}
use Rattle.calendar.specs.Limits.{last_asked}
use Rattle.activity.specs.declared.Activity.{Activity}
use Rattle.activity.specs.Check.{activity_refusal}
use Rattle.board.specs.declared.Board.{Board}
use Rattle.board.specs.Resources.{resource_at}
use Rattle.board.specs.Valid.{valid}
use Rattle.place_plans.specs.declared.Plan.{Plan}
use Rattle.place_plans.specs.Plans.{plan_of}

-- an order that is not refused, on a board that keeps the rules: the plan of the resource at place i, and one of the requirements
pub record Seeks (b : Board) (a : Activity) (ready : ℕ) (p : Plan) (i j t : ℕ) : Type 0 where
  pub right : valid b ≡ true
  pub accepted : activity_refusal a ready ≡ 0
  pub here : i < b.len
  pub one : j < a.len
  pub soon : t ≤ last_asked
  pub plan : p ≡ plan_of b a ready (resource_at b i)
