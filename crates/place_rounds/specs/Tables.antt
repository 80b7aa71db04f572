-- What each resource answers to each requirement, as the code keeps it.
use Rattle.std.specs.Prelude.{ℕ, ◌+◌, ◌*◌, ◌≤◌, ◌<◌, ◌≡◌, Bool, true, ◌&&◌, ◌||◌, List, get_or, length, ltb}
use Rattle.calendar.specs.Limits.{last_asked, never}
use Rattle.calendar.specs.Search.{Found, nothing, at}
use Rattle.activity.specs.declared.ResourceRequirement.{ResourceRequirement}
use Rattle.activity.specs.declared.Activity.{Activity}
use Rattle.activity.specs.Check.{no_requirement, activity_refusal}
use Rattle.board.specs.declared.Board.{Board}
use Rattle.board.specs.Resources.{resource_at}
use Rattle.board.specs.Valid.{valid}
use Rattle.scheduler.specs.Alone.{served}
use Rattle.place_plans.specs.declared.Plan.{Plan}
use Rattle.place_plans.specs.Plans.{Planned}

-- the start of the resource at place i for a requirement, from t on
unfoldable pub found_at : Board → Activity → ℕ → ResourceRequirement → ℕ → ℕ → Found
found_at b a ready q t i = served b a ready q (resource_at b i) t

-- a start as a number, 2^63 for none
unfoldable pub number_of : Found → ℕ
number_of nothing = never
number_of (at s) = s

abbrev pub requirement_at : Activity → ℕ → ResourceRequirement
requirement_at a j = get_or a.requirements j no_requirement

-- the number for requirement j and place i, from t on
abbrev pub start_for : Board → Activity → ℕ → ℕ → ℕ → ℕ → ℕ
start_for b a ready t j i = number_of (found_at b a ready (requirement_at a j) t i)

-- the resource at a place is to be asked from t on: it is on the board, and what it answers from t on is not known
abbrev pub to_ask : ℕ → ℕ → ℕ → ℕ → ℕ → Bool
to_ask place len asked start t = ltb place len && (ltb t asked || ltb start t)

-- what was answered is so for each instant between the one asked from and the start
pub record Remembered (b : Board) (a : Activity) (ready : ℕ) (asked starts : List ℕ) : Type 0 where
  pub asked_long : length asked ≡ 64
  pub starts_long : length starts ≡ 64
  pub so : (j i t : ℕ) → j < a.len → i < b.len → get_or asked (16 * j + i) 0 ≤ t → t ≤ get_or starts (16 * j + i) 0
      → get_or starts (16 * j + i) 0 ≡ start_for b a ready t j i

-- an order that is not refused, on a board that keeps the rules: its plans, and all that is answered from t on
pub record Answered (b : Board) (a : Activity) (ready t len : ℕ) (plans : List Plan) (starts : List ℕ) : Type 0 where
  pub right : valid b ≡ true
  pub accepted : activity_refusal a ready ≡ 0
  pub all : len ≡ b.len
  pub planned : Planned b a ready b.len plans
  pub soon : t ≤ last_asked
  pub so : (j i : ℕ) → j < a.len → i < b.len → get_or starts (16 * j + i) 0 ≡ start_for b a ready t j i
