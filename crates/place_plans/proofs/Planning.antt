-- The durations of a resource alone are in range, and so is its arrival.
use Rattle.std.specs.Prelude.{◌≡◌, ℕ, ◌+◌, ◌^◌, ◌<◌, ◌≤◌, true, List, [], ◌∷◌, set}
use mathlib.Core.Path.{refl, ◌∙◌}
use native.Mathlib.Omega.{arith}
use lib.ListN.{length-set}
use Rattle.activity.specs.declared.Activity.{Activity}
use Rattle.activity.specs.declared.ActivityDuration.{ActivityDuration}
use Rattle.activity.specs.declared.ResourceTiming.{ResourceTiming}
use Rattle.activity.specs.Check.{activity_refusal}
use Rattle.activity.specs.Durations.{duration_on}
use Rattle.activity.specs.Lawful.{Lawful}
use Rattle.activity.specs.Laws.Judging.{Accepted, accepted}
use Rattle.activity.specs.Theorems.Meaning.{Bounded, duration-bounded}
use Rattle.board.specs.declared.Resource.{Resource}
use Rattle.board.specs.declared.Board.{Board}
use Rattle.board.specs.Setups.{setup_on}
use Rattle.board.specs.Resources.{resource_at, number_at}
use Rattle.board.specs.Transport.{greatest_transport}
use Rattle.board.specs.Places.{anywhere}
use Rattle.board.specs.Valid.{valid, resource_right}
use Rattle.board.specs.Theorems.Meaning.{resource-rules, resource-of, transport-is, greatest-small, setup-small}
use Rattle.scheduler.specs.Alone.{arrival}
use Rattle.cells.specs.Laws.Basics.{filled_next}
use Rattle.place_plans.specs.declared.Plan.{Plan}
use Rattle.place_plans.specs.Plans.{no_plan, plan_of, Planned}

module _ (b : Board) (a : Activity) (ready : ℕ) (v : valid b ≡ true) (e : activity_refusal a ready ≡ 0) where
  fine : Accepted a ready
  fine = accepted a ready e

  pub order-lawful : Lawful a.duration a.timings
  order-lawful = fine.lawful

  pub category_range : a.category ≤ 15
  category_range = fine.category_range

  pub number_small : (i : ℕ) → i < b.len → number_at b i < 16
  number_small i l = omega (arith, (resource-of b v i l).number)

  pub way-small : (i : ℕ) → i < b.len → ready + greatest_transport anywhere b.transport a.origins (number_at b i) 16 ≤ 2 ^ 43
  way-small i l = omega (arith, fine.ready_range, greatest-small anywhere b v a.origins (number_at b i) 16 (number_small i l) (omega arith))

  pub arrival-is : (i : ℕ) → i < b.len → ready + greatest_transport anywhere b.transport a.origins (number_at b i) 16 ≡ arrival b a ready (resource_at b i)
  unfolding arrival
  arrival-is i l = rw (transport-is b v a.origins (number_at b i) (number_small i l)) refl

module _ (r : Resource) (base : ActivityDuration) (timings : List ResourceTiming) (category : ℕ) (h : resource_right r ≡ true) (w : Lawful base timings) (l : category ≤ 15) where
  pub lasting-small : (d : ActivityDuration) → d ≡ duration_on base timings (r.number ∷ []) → Bounded d × (setup_on r category d.setup ≤ 2 ^ 36)
  lasting-small d e =
      let s = resource-rules r h in
      let x : Bounded d = rw e (duration-bounded base timings (r.number ∷ []) w (omega arith)) in
      (x, setup-small r.matrix r.last category d.setup s.matrix s.last l x.setup_range)

-- one plan more
pub planned-next : (b : Board) (a : Activity) (ready n : ℕ) (plans : List Plan) (p : Plan) → Planned b a ready n plans → n < 16 → p ≡ plan_of b a ready (resource_at b n) → Planned b a ready (n + 1) (set plans n p)
planned-next b a ready n plans p w l e = record { long = length-set plans n p ∙ w.long; so = filled_next (λ i. plan_of b a ready (resource_at b i)) plans n p no_plan (omega (arith, w.long)) w.so e }
