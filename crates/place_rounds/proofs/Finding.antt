-- What a resource finds for a requirement: in range, and the same from each instant up to its start.
use mathlib.Core.Path.{◌≡◌, refl, sym, ap, subst}
use mathlib.Core.Bool.{Bool, true, false, cond}
use mathlib.Core.List.{List, [], ◌∷◌}
use Prim.Native.Nat.{ℕ, suc, ◌-◌, ◌^◌, ◌≤◌, ◌<◌, max}
use native.Mathlib.Omega.{arith}
use lib.ListN.{get_or, length}
use lib.Seq.{get_or-take, length-take-le}
use Rattle.cells.specs.Every.{every}
use Rattle.calendar.specs.Search.{Found, nothing, at, Answers}
use Rattle.activity.specs.declared.ResourceRequirement.{ResourceRequirement}
use Rattle.activity.specs.declared.Activity.{Activity}
use Rattle.activity.specs.Serving.{serves}
use Rattle.activity.specs.Check.{requirements_of, activity_refusal, no_requirement}
use Rattle.activity.specs.Laws.Judging.{accepted}
use Rattle.activity.specs.Theorems.Meaning.{duration-bounded}
use Rattle.board.specs.declared.Resource.{Resource}
use Rattle.board.specs.declared.Board.{Board}
use Rattle.board.specs.Resources.{no_resource, resources_of, resource_at, on_board}
use Rattle.board.specs.Valid as board
use Rattle.board.specs.Theorems.Meaning.{resource-of, greatest-small, setup-small}
use Rattle.scheduler.specs.Alone.{Share, all_start, last_of, earliest_of, companions_of, with_companions, duration_alone, span_of, span_alone, arrival, start_with, start_alone}
use Rattle.scheduler.specs.Plain.{starts_there}
use Rattle.cells.specs.Laws.Arrays.{each_at}
use Rattle.scheduler.specs.Laws.Together.{Sound}
use Rattle.scheduler.specs.Laws.Latest.{last-small}
use Rattle.scheduler.proofs.Laws.Ruled.{all-kept}
use Rattle.scheduler.specs.Laws.Ruled.{all_there}
use Rattle.calendar.specs.Laws.Searching.{answers-same, not_at, least-found}
use Rattle.scheduler.proofs.Laws.Answering.{KeepsRules, alone-answers}
use Rattle.place_rounds.specs.Tables.{found_at, number_of}

-- span and arrival of a resource alone are in range
module _ (b : Board) (v : board.valid b ≡ true) (a : Activity) (ready : ℕ) (w : activity_refusal a ready ≡ 0) (i : ℕ) (l : i < b.len) where
  pub span_range : span_alone a (resource_at b i) ≤ 2 ^ 53
  unfolding duration_alone span_of
  span_range =
      let k = accepted a ready w in
      let r = resource-of b v i l in
      let d = duration-bounded a.duration a.timings ((resource_at b i).number ∷ []) k.lawful (omega arith) in
      omega (arith, d.process_range, d.teardown_range, setup-small (resource_at b i).matrix (resource_at b i).last a.category _ r.matrix r.last k.category_range d.setup_range)

  pub arrival-range : arrival b a ready (resource_at b i) ≤ 2 ^ 43
  unfolding arrival
  arrival-range =
      let k = accepted a ready w in
      let r = resource-of b v i l in
      omega (arith, k.ready_range, greatest-small (on_board b) b v a.origins (resource_at b i).number 16 (omega (arith, r.number)) (omega arith))

  -- a resource and its companions, where these are on the board
  companions-kept : (q : ResourceRequirement) → every (on_board b) (companions_of (resource_at b i)) ≡ true → Sound (with_companions b (resource_at b i) q.usage)
  companions-kept q =
      let n : length (resources_of b) ≡ b.len = length-take-le b.len b.resources (all_there b v) in
      subst (KeepsRules b a ready q) (get_or-take b.len b.resources i no_resource l) (each_at (KeepsRules b a ready q) no_resource (resources_of b) (all-kept b v a ready q) i (omega arith))

-- a start lies at the instant asked from, or by 2^42
start-by : (b : Board) (r : Resource) (usage : ℕ) (resumable : Bool) (span from s : ℕ) → (every (on_board b) (companions_of r) ≡ true → Sound (with_companions b r usage))
    → start_with b r usage resumable span from ≡ at s → s ≤ max from (2 ^ 42)
unfolding start_with earliest_of
start-by b r usage resumable span from s k = go (every (on_board b) (companions_of r)) refl
  where
    xs : List Share
    xs = with_companions b r usage

    go : (c : Bool) → every (on_board b) (companions_of r) ≡ c → cond c (earliest_of resumable span xs from) nothing ≡ at s → s ≤ max from (2 ^ 42)
    go true e f = omega (arith, (least-found (all_start resumable span xs) from (suc (last_of xs - from)) s f).1, last-small xs (k e))
    go false e f = absurd (not_at s f)

-- of each requirement at least a unit is wanted
pub used-some : (a : Activity) (ready i : ℕ) → activity_refusal a ready ≡ 0 → a.len ≤ length a.requirements → i < a.len → 1 ≤ (get_or a.requirements i no_requirement).usage
used-some a ready i e m l =
    let n : length (requirements_of a) ≡ a.len = length-take-le a.len a.requirements m in
    subst (λ (q : ResourceRequirement). 1 ≤ q.usage) (get_or-take a.len a.requirements i no_requirement l) ((accepted a ready e).used i (omega arith)).0

-- a number is the start, or none
pub number_at : (f : Found) (x : ℕ) → x ≡ number_of f → x < 2 ^ 63 → f ≡ at x
unfolding number_of
number_at nothing x e l = absurd (omega arith)
number_at (at s) x e l = ap at (sym e)

pub number-none : (f : Found) → 2 ^ 63 ≤ number_of f → ((s : ℕ) → f ≡ at s → s ≤ 2 ^ 43) → f ≡ nothing
unfolding number_of
number-none nothing l h = refl
number-none (at s) l h = absurd (omega (arith, h s refl))

module _ (b : Board) (v : board.valid b ≡ true) (a : Activity) (ready : ℕ) (w : activity_refusal a ready ≡ 0) (q : ResourceRequirement) (i : ℕ) (l : i < b.len) where
  abbrev asked : ℕ → Found
  asked t = start_alone b a ready q (resource_at b i) t

  -- a start lies by 2^43
  pub found-range : (t s : ℕ) → t ≤ 2 ^ 43 → found_at b a ready q t i ≡ at s → s ≤ 2 ^ 43
  unfolding found_at start_alone
  found-range t s m = go (serves q (resource_at b i).number (resource_at b i).kind (resource_at b i).skills)
    where
      go : (c : Bool) → cond c (asked t) nothing ≡ at s → s ≤ 2 ^ 43
      go true e = omega (arith, start-by b (resource_at b i) q.usage a.resumable (span_alone a (resource_at b i)) (max t (arrival b a ready (resource_at b i))) s (companions-kept b v a ready w i l q) e, arrival-range b v a ready w i l)
      go false e = absurd (not_at s e)

  -- from a later instant, up to the start, it is the same
  pub found-later : (t u : ℕ) → t ≤ u → u ≤ number_of (found_at b a ready q t i) → found_at b a ready q u i ≡ found_at b a ready q t i
  unfolding found_at number_of
  found-later t u m n = answers-same P P u (found_at b a ready q u i) (found_at b a ready q t i) (λ y o. refl) (answers u) (same (found_at b a ready q t i) (answers t) n)
    where
      P : ℕ → Bool
      P y = starts_there b a ready q (resource_at b i) y

      answers : (y : ℕ) → Answers P y (found_at b a ready q y i)
      answers y = alone-answers b a ready q (resource_at b i) (companions-kept b v a ready w i l q) y

      same : (f : Found) → Answers P t f → u ≤ number_of f → Answers P u f
      same nothing h o = λ y k. h y (omega arith)
      same (at s) h o = record { low = o; holds = h.holds; first = λ y k z. h.first y (omega arith) z }
