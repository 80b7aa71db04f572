-- Resumable work on several diaries together: the search from event to event finds the least start.
use mathlib.Core.Path.{◌≡◌, refl, sym}
use mathlib.Core.Bool.{Bool, true, false, cond}
use mathlib.Core.List.{List, map}
use Prim.Native.Nat.{ℕ, suc, ◌^◌, ◌≤◌, ◌<◌}
use native.Mathlib.Omega.{arith}
use Rattle.calendar.specs.Search.{Found, nothing, at}
use Rattle.calendar.specs.Work.{joint_end}
use Rattle.calendar.specs.Laws.Searching.{not_at}
use Rattle.timeline.specs.Laws.Searching.{Sought, sought-on, sought-found, sought-none}
use Rattle.scheduler.specs.Alone.{Share, last_of}
use Rattle.scheduler.specs.Fitting.{calendar_of, all_free, free_to_end}
use Rattle.scheduler.specs.Laws.Together.{Sound, Calm, last-calm}
use Rattle.scheduler.specs.Laws.Latest.{last-small}
use Rattle.scheduler.specs.Laws.Owning.{suits_on, suits-on-back, least_on}

-- the joint end, where all are free up to it
unfoldable pub end_free : List Share → ℕ → Found → Found
end_free ys s nothing = nothing
end_free ys s (at e) = cond (all_free ys s e) (at e) nothing

-- what it says of the definition
module _ (ys : List Share) (s : ℕ) (f : Found) where
  pub end-found : (e : ℕ) → end_free ys s f ≡ at e → (f ≡ at e) × (free_to_end ys s f ≡ true)
  unfolding end_free free_to_end
  end-found e p = go f refl p
    where
      free : (d : ℕ) (q : Bool) → all_free ys s d ≡ q → cond q (at d) nothing ≡ at e → (at d ≡ at e) × (all_free ys s d ≡ true)
      free d true k h = (h, k)
      free d false k h = absurd (not_at e h)

      go : (g : Found) → f ≡ g → end_free ys s g ≡ at e → (g ≡ at e) × (free_to_end ys s g ≡ true)
      go nothing h k = absurd (not_at e k)
      go (at d) h k = free d (all_free ys s d) refl k

  end-free : end_free ys s f ≡ nothing → free_to_end ys s f ≡ false
  unfolding end_free free_to_end
  end-free p = go f p
    where
      free : (d : ℕ) (q : Bool) → all_free ys s d ≡ q → cond q (at d) nothing ≡ nothing → q ≡ false
      free d true k h = absurd (not_at d (sym h))
      free d false k h = refl

      go : (g : Found) → end_free ys s g ≡ nothing → free_to_end ys s g ≡ false
      go nothing k = refl
      go (at d) k = free d (all_free ys s d) refl k

-- the least start of the work, with its end
pub record Least (ys : List Share) (work from s e : ℕ) : Type 0 where
  pub start : least_on true ys work from ≡ at s
  pub end : joint_end (map calendar_of ys) s work ≡ at e

module _ (ys : List Share) (sound : Sound ys) (work from : ℕ) where
  abbrev P : ℕ → Bool
  P x = suits_on true ys work x

  -- a start that the search finds is the least
  pub found : (x e : ℕ) → Sought P from x → end_free ys x (joint_end (map calendar_of ys) x work) ≡ at e → Least ys work from x e
  unfolding least_on suits_on
  found x e s h =
      let w = end-found ys x (joint_end (map calendar_of ys) x work) e h in
      record { start = sought-found P from (last_of ys) (λ y l. suits-on-back true ys work y (last-calm ys sound y l)) x s w.1; end = w.0 }

  -- the search goes on to the next event
  pub onward : (x r : ℕ) → Sought P from x → end_free ys x (joint_end (map calendar_of ys) x work) ≡ nothing → x < r → ((y : ℕ) → x ≤ y → suc y < r → Calm (suc y) ys) → Sought P from r
  unfolding suits_on
  onward x r s h l calm = sought-on P from x r s (end-free ys x (joint_end (map calendar_of ys) x work) h) l (λ y a b. suits-on-back true ys work y (calm y a b))

  -- and past all events there is nothing
  pub over : (x : ℕ) → from ≤ 2 ^ 43 → 2 ^ 63 ≤ x → Sought P from x → least_on true ys work from ≡ nothing
  unfolding least_on
  over x f l s = sought-none P from (last_of ys) x s (omega (arith, last-small ys sound))
