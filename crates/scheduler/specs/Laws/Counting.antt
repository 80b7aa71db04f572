-- The Rust's rounds over several diaries end in the least instant that passes; two choices by one rule are the same.
use Rattle.std.specs.Prelude.{◌≡◌, refl, Bool, cond, List, length}
use Rattle.std.proofs.Math.Bool.{true, false}
use Rattle.std.proofs.Common.{inl, inr, ⊎_elim, arith}
use Prim.Native.Nat.{ℕ, zero, suc, ◌≤◌, ◌<◌}
use Rattle.std.proofs.Math.Dec.{eqb}
use borrow.Author.Tests.{eqb-true, eqb-false}
use Rattle.cells.specs.Laws.Basics.{not-both, lt-or-ge}
use Rattle.calendar.specs.Search.{Found, nothing, at, Answers}
use Rattle.timeline.specs.Laws.Searching.{Sought, sought-start}
use Rattle.scheduler.specs.Choosing.{Held, Choice, no_choice, chosen}
use Rattle.scheduler.specs.Fitting.{among}
use Rattle.scheduler.specs.Plain.{Chooses}
use Rattle.scheduler.specs.Instants.{above, stepped, steps}
use Rattle.scheduler.specs.Laws.Events.{above-falls, above-length}
use Rattle.scheduler.specs.Laws.Latest.{Step, Latest, sought-past, sought-never}

-- with more rounds than listed instants, the steps end in the least instant that passes
module _ (P : ℕ → Bool) (L : ℕ → Found) (l : List ℕ) (says : (t : ℕ) → Latest P l t (L t)) (from : ℕ) where
  walk : (n t : ℕ) → Sought P from t → above l t < n → Answers P from (steps n L t)
  unfolding steps stepped
  walk zero t r h = absurd (omega arith)
  walk (suc n) t r h = go (L t) (says t) (walk n)
    where
      one : (u : ℕ) → Step P l t u → (q : Bool) → eqb u t ≡ q → (Sought P from u → above l u < n → Answers P from (steps n L u)) → Answers P from (cond q (at t) (steps n L u))
      one u s true e again = record { low = r.low; holds = s.here (eqb-true u t e); first = r.none }
      one u s false e again =
          let ne = eqb-false u t e in
          again (sought-past P from t u r s.low s.none) (omega (arith, above-falls l t u (omega (arith, s.low)) (⊎_elim (λ (z : u ≡ t). absurd (ne z)) (λ (z : among u l ≡ true). z) s.listed)))

      go : (f : Found) → Latest P l t f → ((u : ℕ) → Sought P from u → above l u < n → Answers P from (steps n L u)) → Answers P from (stepped t f (steps n L))
      go nothing w again = sought-never P from t r w
      go (at u) w again = one u w (eqb u t) refl (again u)

  pub steps-mean : (n : ℕ) → length l < n → Answers P from (steps n L from)
  steps-mean n h = walk n from (sought-start P from) (omega (arith, above-length l from))

-- a list that holds more instants
pub latest-wider : (P : ℕ → Bool) (l m : List ℕ) (t : ℕ) (f : Found) → ((x : ℕ) → among x l ≡ true → among x m ≡ true) → Latest P l t f → Latest P m t f
latest-wider P l m t nothing f w = w
latest-wider P l m t (at u) f w = record { low = w.low; none = w.none; here = w.here; listed = ⊎_elim (λ (e : u ≡ t). inl e) (λ (e : among u l ≡ true). inr (f u e)) w.listed }

-- two choices by one rule are the same
pub choices-same : (P : ℕ → Bool) (H : ℕ → List Held) (ready : ℕ) (f g : Choice) → Chooses P H ready f → Chooses P H ready g → f ≡ g
choices-same P H ready no_choice no_choice v w = refl
choices-same P H ready no_choice (chosen t hs) v w = absurd (not-both (P t) w.0.holds (v t w.0.low))
choices-same P H ready (chosen t hs) no_choice v w = absurd (not-both (P t) v.0.holds (w t v.0.low))
choices-same P H ready (chosen t hs) (chosen u ks) v w =
    let l = ⊎_elim (λ (m : t < u). absurd (not-both (P t) v.0.holds (w.0.first t v.0.low m))) (λ (m : u ≤ t). m) (lt-or-ge t u) in
    let n = ⊎_elim (λ (m : u < t). absurd (not-both (P u) w.0.holds (v.0.first u w.0.low m))) (λ (m : t ≤ u). m) (lt-or-ge u t) in
    let e : t ≡ u = omega arith in
    rw (v.1, w.1, e) refl
