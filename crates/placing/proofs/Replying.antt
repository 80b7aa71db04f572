-- The reply, case by case.
use Rattle.std.specs.Prelude.{◌≡◌, ℕ, zero, suc, ◌≤◌, List, [], ◌∷◌, length, take}
use mathlib.Core.Path.{refl, sym, ap, ◌∙◌}
use native.Mathlib.Omega.{arith}
use Rattle.activity.specs.declared.ResourceRequirement.{ResourceRequirement}
use Rattle.activity.specs.declared.Activity.{Activity}
use Rattle.activity.specs.Ready.{ready_of}
use Rattle.activity.specs.Check.{requirements_of, activity_refusal}
use Rattle.activity.specs.Laws.Judging.{accepted, accepted-is}
use Rattle.activity.specs.Theorems.Meaning.{ready_range}
use Rattle.board.specs.declared.Board.{Board}
use Rattle.scheduler.specs.Alone.{span_of}
use Rattle.scheduler.specs.Choosing.{Held, no_choice, chosen, choosing}
use Rattle.scheduler.specs.Fitting.{entries_of, span_together}
use Rattle.scheduler.specs.Placing.{none, refused, fitted, fit_chosen, time_only, by_requirements, placing, place_refusal, place_reply}
use Rattle.calendar.specs.Refusals.{refused_or}
use Rattle.calendar.specs.Laws.Refusals.{refused-by}

-- the order from its release on is not refused either
pub ready-lawful : (a : Activity) (ready : ℕ) → activity_refusal a ready ≡ 0 → activity_refusal a (ready_of a.release ready) ≡ 0
ready-lawful a ready e =
    let x = accepted a ready e in
    accepted-is a (ready_of a.release ready) (record {
      category_range = x.category_range;
      ready_range = ready_range a.release ready x.release_range x.ready_range;
      release_range = x.release_range;
      lawful = x.lawful;
      few = x.few;
      some = x.some;
      total_range = x.total_range;
      used = x.used;
    })

module _ (b : Board) (a : Activity) (ready slate : ℕ) where
  pub reply-refused : (n : ℕ) → n ≡ place_refusal b a ready slate → (n ≡ 0 → ⊥) → place_reply b a ready slate ≡ refused n
  unfolding place_reply
  reply-refused n e h = rw (← e) (sym (refused-by refused n (placing b a (ready_of a.release ready)) h))

  pub reply-is : place_refusal b a ready slate ≡ 0 → place_reply b a ready slate ≡ placing b a (ready_of a.release ready)
  unfolding place_reply refused_or
  reply-is e = rw e refl

module _ (b : Board) (a : Activity) (ready : ℕ) where
  -- without requirements
  pub placing-alone : a.len ≡ 0 → placing b a ready ≡ fitted b a (span_of a.duration.setup a.duration) ready []
  unfolding placing by_requirements time_only
  placing-alone z = rw z refl

  module _ (q : ResourceRequirement) (qs : List ResourceRequirement) (asks : requirements_of a ≡ q ∷ qs) where
    placing-chosen : placing b a ready ≡ fit_chosen b a (choosing b a ready)
    unfolding placing by_requirements
    placing-chosen = rw asks refl

    pub placing-none : choosing b a ready ≡ no_choice → placing b a ready ≡ none
    unfolding fit_chosen
    placing-none c = placing-chosen ∙ ap (fit_chosen b a) c

    pub placing-held : (t : ℕ) (hs : List Held) → choosing b a ready ≡ chosen t hs → placing b a ready ≡ fitted b a (span_together a hs) t (entries_of a hs)
    unfolding fit_chosen
    placing-held t hs c = placing-chosen ∙ ap (fit_chosen b a) c

-- an order with requirements has a first one
pub first_one : (a : Activity) → (a.len ≡ 0 → ⊥) → length a.requirements ≡ 4 → (q : ResourceRequirement) × (qs : List ResourceRequirement) × (requirements_of a ≡ q ∷ qs)
first_one a h l = go a.len a.requirements h (omega (arith, l))
  where
    go : (n : ℕ) (rs : List ResourceRequirement) → (n ≡ 0 → ⊥) → 1 ≤ length rs → (q : ResourceRequirement) × (qs : List ResourceRequirement) × (take n rs ≡ q ∷ qs)
    go zero rs f m = absurd (f refl)
    go (suc n) [] f m = absurd (omega arith)
    go (suc n) (r ∷ rs) f m = (r, take n rs, refl)
