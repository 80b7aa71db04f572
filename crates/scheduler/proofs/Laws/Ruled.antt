-- What a board that keeps the rules gives to the rounds: each resource keeps the rules, and what it waits for is listed.
use Rattle.std.specs.Prelude.{◌≡◌, ◌||◌, get_or, length, take, eqb}
use Rattle.std.proofs.Math.Path.{refl}
use Rattle.std.proofs.Common.{sym, ap, ◌∙◌, arith, eq-eqb, eqb-true}
use Rattle.std.proofs.Math.Bool.{true}
use mathlib.Core.List.{List, [], ◌∷◌, map}
use Rattle.std.proofs.Math.Logic.{⊎_elim}
use Prim.Native.Nat.{ℕ, zero, suc, ◌<◌}
use Rattle.cells.specs.Laws.Basics.{or-in-left, or-in-right, or_cases}
use Rattle.activity.specs.declared.ResourceRequirement.{ResourceRequirement}
use Rattle.activity.specs.declared.Activity.{Activity}
use Rattle.cells.specs.Every.{every, Each}
use Rattle.board.specs.declared.Resource.{Resource}
use Rattle.board.specs.declared.Board.{Board}
use Rattle.board.specs.Resources.{no_resource, resources_of, resource_at, on_board}
use Rattle.board.specs.Valid as board
use Rattle.scheduler.specs.Alone.{companions_of, with_companions, arrival}
use Rattle.scheduler.specs.Fitting.{among}
use Rattle.cells.specs.Laws.Arrays.{each-cells}
use Rattle.scheduler.proofs.Laws.Answering.{KeepsRules}
use Rattle.scheduler.specs.Instants.{events_of, events_on, points}
use Rattle.scheduler.specs.Laws.Events.{among-left, among-right}
use Rattle.scheduler.proofs.Laws.Chosen.{Listed}
use Rattle.scheduler.specs.Laws.Ruled.{all-seated, seated-sound, seated-events}

arrival-on : (f : Resource → ℕ) (n : ℕ) (xs : List Resource) (i : ℕ) → i < n → i < length xs → among (f (get_or xs i no_resource)) (map f (take n xs)) ≡ true
unfolding among
arrival-on f n [] i l m = absurd (omega arith)
arrival-on f zero (r ∷ rs) i l m = absurd (omega arith)
arrival-on f (suc n) (r ∷ rs) zero l m = or-in-left (eqb (f r) (f r)) (among (f r) (map f (take n rs))) (eq-eqb (f r) (f r) refl)
arrival-on f (suc n) (r ∷ rs) (suc i) l m = or-in-right (eqb (f r) (f (get_or rs i no_resource))) (among (f (get_or rs i no_resource)) (map f (take n rs))) (arrival-on f n rs i (omega arith) (omega arith))

module _ (b : Board) (v : board.valid b ≡ true) where
  module _ (a : Activity) (ready : ℕ) where
    pub all-kept : (q : ResourceRequirement) → Each (KeepsRules b a ready q) (resources_of b)
    all-kept q = each-cells (KeepsRules b a ready q) no_resource b.len b.resources (λ i l m e. seated-sound b v (with_companions b (resource_at b i) q.usage) (all-seated b v i q.usage l e))

    pub all_listed : (q : ResourceRequirement) → Each (Listed b a ready all-kept (points b a ready) q) (resources_of b)
    unfolding points among
    all_listed q = each-cells (Listed b a ready all-kept (points b a ready) q) no_resource b.len b.resources one
      where
        first : List ℕ
        first = map (arrival b a ready) (resources_of b)

        one : (i : ℕ) → i < b.len → i < length b.resources → every (on_board b) (companions_of (resource_at b i)) ≡ true
            → (x : ℕ) → eqb (arrival b a ready (resource_at b i)) x || among x (events_of (with_companions b (resource_at b i) q.usage)) ≡ true → among x (points b a ready) ≡ true
        one i l m e x h =
            let r = resource_at b i in
            let xs = with_companions b r q.usage in
            ⊎_elim
            (λ (k : eqb (arrival b a ready r) x ≡ true).
            let z : arrival b a ready r ≡ x = eqb-true (arrival b a ready r) x k in
            among-left x first (events_on b) (ap (λ (y : ℕ). among y first) (sym z) ∙ arrival-on (arrival b a ready) b.len b.resources i l m))
            (λ (k : among x (events_of xs) ≡ true). among-right x first (events_on b) (seated-events b v xs (all-seated b v i q.usage l e) x k))
            (or_cases (eqb (arrival b a ready r) x) (among x (events_of xs)) h)
