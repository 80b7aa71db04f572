-- The choice without rounds, as the rule under the price list has it: the first instant when every line of the order has enough
-- resources that can start at that instant itself, shorter processing first, then board order.
use Rattle.std.specs.Prelude.{ℕ, ◌≤◌, Bool, true, ◌&&◌, cond, false, List, [], ◌∷◌, ◌++◌, length, leb, ◌≡◌}
use Rattle.activity.specs.declared.ResourceRequirement.{ResourceRequirement}
use Rattle.activity.specs.declared.Activity.{Activity}
use Rattle.activity.specs.Serving.{serves}
use Rattle.cells.specs.Every.{every}
use Rattle.board.specs.declared.Resource.{Resource}
use Rattle.board.specs.declared.Board.{Board}
use Rattle.board.specs.Resources.{resources_of, on_board}
use Rattle.scheduler.specs.Alone.{all_start, companions_of, with_companions, duration_alone, span_alone, arrival}
use Rattle.scheduler.specs.Choosing.{Candidate, sort, Held, hold_first, Choice, no_choice, chosen}
use Rattle.calendar.specs.Search.{Earliest}

-- a resource can start at t itself for a requirement: it serves, its companions are on the board, t is not before its arrival, and it
-- and its companions can start then
unfoldable pub starts_there : Board → Activity → ℕ → ResourceRequirement → Resource → ℕ → Bool
starts_there b a ready q r t =
    serves q r.number r.kind r.skills
    && (every (on_board b) (companions_of r)
    && (leb (arrival b a ready r) t
    && all_start a.resumable (span_alone a r) (with_companions b r q.usage) t))

abbrev pub candidate_at : Activity → ℕ → Resource → Candidate
candidate_at a t r = record { start = t; process = (duration_alone a r).process; resource = r }

-- those that can, in board order
unfoldable pub startable : Board → Activity → ℕ → ResourceRequirement → ℕ → List Resource → List Candidate
startable b a ready q t [] = []
startable b a ready q t (r ∷ rs) =
    cond (starts_there b a ready q r t) (candidate_at a t r ∷ startable b a ready q t rs) (startable b a ready q t rs)

-- every requirement has its quantity of them
unfoldable pub enough : Board → Activity → ℕ → List ResourceRequirement → ℕ → Bool
enough b a ready [] t = true
enough b a ready (q ∷ qs) t = leb q.quantity (length (startable b a ready q t (resources_of b))) && enough b a ready qs t

-- and holds the first of them: all start at t, so that sorting goes by process, then board order
unfoldable pub held_at : Board → Activity → ℕ → List ResourceRequirement → ℕ → List Held
held_at b a ready [] t = []
held_at b a ready (q ∷ qs) t = hold_first q (sort (startable b a ready q t (resources_of b))) ++ held_at b a ready qs t

-- what a choice is, for a test of an instant and what is held there: the least instant, or that there is none
abbrev pub Chooses : (ℕ → Bool) → (ℕ → List Held) → ℕ → Choice → Type 0
Chooses P H ready no_choice = (x : ℕ) → ready ≤ x → P x ≡ false
Chooses P H ready (chosen t hs) = Earliest P ready t × (hs ≡ H t)
