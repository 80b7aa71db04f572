-- A search from start candidate to start candidate finds the least instant, where the test holds one earlier too unless one stands between.
use Rattle.std.specs.Prelude.{◌≡◌, refl, Bool, true, false, ℕ, zero, suc, ◌+◌, ◌-◌, ◌≤◌, ◌<◌, max}
use Rattle.std.proofs.Common.{⊎_elim, arith}
use Rattle.cells.specs.Laws.Basics.{no_way, not-both, lt-or-ge}
use Rattle.calendar.specs.Search.{Found, nothing, at, least_from, Earliest}
use Rattle.calendar.specs.Laws.Searching.{least-found, answer-is}

-- no start up to the next candidate
none-until : (P : ℕ → Bool) (x r : ℕ) → P x ≡ false → ((y : ℕ) → x ≤ y → suc y < r → P (suc y) ≡ true → P y ≡ true) → (j : ℕ) → x + j < r → P (x + j) ≡ false
none-until P x r h back zero l =
    let e : x + 0 ≡ x = omega arith in
    rw e h
none-until P x r h back (suc j) l =
    let e : x + suc j ≡ suc (x + j) = omega arith in
    let i = none-until P x r h back j (omega arith) in
    rw e (no_way _ (λ g. not-both _ (back (x + j) (omega arith) (omega arith) g) i))

-- what the search keeps: nothing before x
pub record Sought (P : ℕ → Bool) (from x : ℕ) : Type 0 where
  pub low : from ≤ x
  pub none : (y : ℕ) → from ≤ y → y < x → P y ≡ false

pub sought-start : (P : ℕ → Bool) (from : ℕ) → Sought P from from
sought-start P from = record { low = omega arith; none = λ y a b. absurd (omega arith) }

pub sought-on : (P : ℕ → Bool) (from x r : ℕ) → Sought P from x → P x ≡ false → x < r → ((y : ℕ) → x ≤ y → suc y < r → P (suc y) ≡ true → P y ≡ true) → Sought P from r
sought-on P from x r s h l back = record {
  low = omega (arith, s.low);
  none = λ y a b.
      ⊎_elim
      (λ (z : y < x). s.none y a z)
      (λ (z : x ≤ y).
      let e : x + (y - x) ≡ y = omega arith in
      rw e at (none-until P x r h back (y - x) (omega arith)))
      (lt-or-ge y x);
}

-- past the last event what holds later holds here too, so a start that is found is what the definition finds, and lies within what it tries
module _ (P : ℕ → Bool) (from last : ℕ) (back : (y : ℕ) → last ≤ y → P (suc y) ≡ true → P y ≡ true) where
  pub sought-found : (x : ℕ) → Sought P from x → P x ≡ true → least_from P from (suc (last - from)) ≡ at x
  sought-found x s h = answer-is P from last back (at x) (record { low = s.low; holds = h; first = s.none })

  pub found_within : (x : ℕ) → Earliest P from x → x ≤ max from last
  found_within x w = omega (arith, (least-found P from (suc (last - from)) x (answer-is P from last back (at x) w)).1)

pub sought-none : (P : ℕ → Bool) (from last x : ℕ) → Sought P from x → max from last < x → least_from P from (suc (last - from)) ≡ nothing
sought-none P from last x s l = go (least_from P from (suc (last - from))) refl
  where
    go : (f : Found) → least_from P from (suc (last - from)) ≡ f → f ≡ nothing
    go nothing e = refl
    go (at y) e =
        let r = least-found P from (suc (last - from)) y e in
        absurd (not-both (P y) r.0.holds (s.none y r.0.low (omega (arith, r.1))))
