-- A round as the code goes through it, place by place, and the rounds so far.
use Rattle.std.specs.Prelude.{ℕ, zero, suc, ◌≤◌, ◌<◌, ◌≡◌, List, [], ◌++◌, take, Option, Some, None, IfSome}
use Rattle.std.specs.declared.ops.ControlFlow.{ControlFlow}
use Rattle.std.specs.ControlFlow.{MatchControlFlow}
use Rattle.calendar.specs.Limits.{last_asked}
use Rattle.activity.specs.declared.ResourceRequirement.{ResourceRequirement}
use Rattle.activity.specs.declared.Activity.{Activity}
use Rattle.activity.specs.Check.{requirements_of}
use Rattle.board.specs.declared.Board.{Board}
use Rattle.board.specs.Resources.{resources_of, resource_at}
use Rattle.scheduler.specs.declared.Selection.{Selection}
use Rattle.scheduler.specs.Alone.{duration_alone}
use Rattle.scheduler.specs.Choosing as scheduler
use Rattle.scheduler.specs.Selections.{held_to, OnPlaces}
use Rattle.cells.specs.Every.{Each}
use Rattle.scheduler.specs.Instants.{above, points}
use Rattle.place_plans.specs.declared.Plan.{Plan}
use Rattle.place_plans.specs.Plans.{Planned}
use Rattle.place_rounds.specs.Tables.{found_at, requirement_at, Answered}
use Rattle.place_rounds.specs.declared.rank.Candidate.{Candidate}
use Rattle.place_rounds.specs.declared.rank.Ranked.{Ranked}
use Rattle.place_rounds.specs.Named.{ranked_of}
use Rattle.place_rounds.specs.declared.Selections.{Selections}
use Rattle.place_rounds.specs.declared.Choice.{Choice}

-- what the resource at a place answers
unfoldable pub answer_at : Board → Activity → ℕ → ResourceRequirement → ℕ → ℕ → List scheduler.Candidate
answer_at b a ready q t i = scheduler.answer (duration_alone a (resource_at b i)).process (resource_at b i) (found_at b a ready q t i)

-- and the first n places
unfoldable pub answers_to : Board → Activity → ℕ → ResourceRequirement → ℕ → ℕ → List scheduler.Candidate
answers_to b a ready q t zero = []
answers_to b a ready q t (suc n) = answers_to b a ready q t n ++ answer_at b a ready q t n

-- a candidate stands on the board and starts by 2^43
pub record Fair (b : Board) (c : Candidate) : Type 0 where
  pub stands : c.place < b.len
  pub soon : c.start ≤ last_asked

-- the candidates for requirement j from t on
pub record SortedFor (b : Board) (a : Activity) (ready t j : ℕ) (k : Ranked) : Type 0 where
  pub so : ranked_of b k ≡ scheduler.sort (scheduler.candidates b a ready (requirement_at a j) t (resources_of b))
  pub fair : Each (Fair b) (take k.count k.candidates)

-- those of any board and order that have answered so
abbrev pub CandidatesFor : List Plan → List ℕ → ℕ → ℕ → Ranked → Type 0
CandidatesFor plans starts len j k =
    (b : Board) (a : Activity) (ready t : ℕ) → Answered b a ready t len plans starts → j < a.len → SortedFor b a ready t j k

-- so does one held, and at least a unit is wanted of it
pub record Lasting (b : Board) (h : Selection) : Type 0 where
  pub stands : h.place < b.len
  pub some : 1 ≤ h.usage
  pub soon : h.start ≤ last_asked

-- at most eight are held
abbrev pub Few : Selections → Type 0
Few h = h.count ≤ 8

-- the round that the code answers
unfoldable pub round_of : Board → Option Selections → scheduler.Round
round_of b (Some h) = scheduler.holds (held_to b h.cells h.count)
round_of b None = scheduler.too_few

-- it is the round at t on any board that has answered so from t on, and each held stands on that board
abbrev pub RoundFor : List Plan → List ℕ → ℕ → Activity → Option Selections → Type 0
RoundFor plans starts len a h =
    (b : Board) (ready t : ℕ) → Answered b a ready t len plans starts
    → (round_of b h ≡ scheduler.round b a ready t (requirements_of a)) × IfSome h (λ x. Each (Lasting b) (take x.count x.cells))

-- and the choice
unfoldable pub choice_of : Board → Option Choice → scheduler.Choice
choice_of b (Some r) = scheduler.chosen r.instant (held_to b r.held.cells r.held.count)
choice_of b None = scheduler.no_choice

-- those chosen stand on the board, and their plans are known; the choosing instant is by 2^43
pub record Chosen (b : Board) (a : Activity) (ready : ℕ) (r : Choice) : Type 0 where
  pub soon : r.instant ≤ last_asked
  pub few : r.held.count ≤ 8
  pub places : OnPlaces b r.held.cells r.held.count
  pub planned : Planned b a ready b.len r.plans

-- the rounds have led to t, and more of them are left than there are instants after t
pub record Led (b : Board) (a : Activity) (ready t : ℕ) : Type 0 where
  pub left : ℕ
  pub more : above (points b a ready) t < left
  pub so : scheduler.rounds left b a ready t ≡ scheduler.choosing b a ready

-- fewer instants are left after u than after t
abbrev pub Fewer : Board → Activity → ℕ → ℕ → ℕ → Type 0
Fewer b a ready t u = above (points b a ready) u < above (points b a ready) t

-- the rounds have ended in the choice
pub record Ended (b : Board) (a : Activity) (ready : ℕ) (c : Option Choice) : Type 0 where
  pub so : choice_of b c ≡ scheduler.choosing b a ready
  pub chosen : IfSome c (Chosen b a ready)

-- or have led to an instant
pub record LedTo (b : Board) (a : Activity) (ready t : ℕ) : Type 0 where
  pub soon : t ≤ last_asked
  pub led : Led b a ready t

-- the round at t, on any board that has answered so and has led to t: it ends the rounds, or leads on, and leaves fewer instants
abbrev pub RoundMore : List Plan → List ℕ → ℕ → Activity → ℕ → ControlFlow (Option Choice) ℕ → Type 0
RoundMore plans starts len a t x =
    (b : Board) (ready : ℕ) → Answered b a ready t len plans starts → Led b a ready t
    → MatchControlFlow x (λ u. LedTo b a ready u × Fewer b a ready t u) (Ended b a ready)
