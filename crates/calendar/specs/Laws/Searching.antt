-- What the search of `Search.antt` finds, and laws of the greatest of a list.
use Rattle.std.specs.Prelude.{◌≡◌, refl, Bool, true, false, get_or, length}
use Rattle.std.proofs.Common.{sym, ap, ◌∙◌, ⊎_elim, eq-or-lt_of_le}
use mathlib.Core.List.{List, [], ◌∷◌, ◌++◌, map}
use Prim.Native.Nat.{ℕ, zero, suc, ◌+◌, ◌-◌, ◌≤◌, ◌<◌, max}
use native.Mathlib.Omega.{arith}
use Rattle.cells.specs.Laws.Basics.{no_way, lt-or-ge, not-both}
use Rattle.calendar.specs.Search.{Found, nothing, at, least_from, greatest_of, Earliest, Answers}

-- nothing is no instant
pub not_at : (e : ℕ) → nothing ≡ at e → ⊥
not_at e q = let z : ◌≡◌ {A = ℕ} 0 1 = cc in omega arith

-- two answers for tests that say the same are the same
pub answers-same : (P Q : ℕ → Bool) (from : ℕ) (f g : Found) → ((x : ℕ) → from ≤ x → P x ≡ Q x) → Answers P from f → Answers Q from g → f ≡ g
answers-same P Q from nothing nothing e p q = refl
answers-same P Q from nothing (at s) e p q = absurd (not-both (Q s) q.holds (sym (e s q.low) ∙ p s q.low))
answers-same P Q from (at s) nothing e p q = absurd (not-both (P s) p.holds (e s p.low ∙ q s p.low))
answers-same P Q from (at r) (at s) e p q = ap at (⊎_elim (λ (l : r < s). before l) (λ (l : s ≤ r). ⊎_elim (λ (m : s < r). after m) (λ (m : r ≤ s). omega arith) (lt-or-ge s r)) (lt-or-ge r s))
  where
    before : r < s → r ≡ s
    before l = absurd (not-both (P r) p.holds (e r p.low ∙ q.first r p.low l))

    after : s < r → r ≡ s
    after l = absurd (not-both (Q s) q.holds (sym (e s q.low) ∙ p.first s q.low l))

-- The search tries n instants. What it finds is the least of them ..
pub least-found : (P : ℕ → Bool) (from n s : ℕ) → least_from P from n ≡ at s → Earliest P from s × (s < from + n)
unfolding least_from
least-found P from zero s e = absurd (not_at s e)
least-found P from (suc n) s e = go (P from) refl e (least-found P (suc from) n s)
  where
    go : (b : Bool) → P from ≡ b → elim b [ true ↦ at from | false ↦ least_from P (suc from) n ] ≡ at s
        → (least_from P (suc from) n ≡ at s → Earliest P (suc from) s × (s < suc from + n)) → Earliest P from s × (s < from + suc n)
    go true q f ih =
        let z : from ≡ s = cc in
        (record { low = omega arith; holds = rw (← z) q; first = λ x a b. absurd (omega arith) }, omega arith)
    go false q f ih =
        let r = ih f in (
          record {
            low = omega (arith, r.0.low);
            holds = r.0.holds;
            first = λ x a b. ⊎_elim (λ (z : from ≡ x). rw (← z) q) (λ (z : from < x). r.0.first x z b) (eq-or-lt_of_le a);
          },
          omega (arith, r.1),
        )

-- .. where it finds nothing, P holds at none of them ..
pub least-none : (P : ℕ → Bool) (from n : ℕ) → least_from P from n ≡ nothing → (x : ℕ) → from ≤ x → x < from + n → P x ≡ false
unfolding least_from
least-none P from zero e x a b = absurd (omega arith)
least-none P from (suc n) e x a b = go (P from) refl e (λ f g. least-none P (suc from) n f x g (omega arith))
  where
    go : (b : Bool) → P from ≡ b → elim b [ true ↦ at from | false ↦ least_from P (suc from) n ] ≡ nothing
        → (least_from P (suc from) n ≡ nothing → suc from ≤ x → P x ≡ false) → P x ≡ false
    go true q f ih = absurd (not_at from (sym f))
    go false q f ih = ⊎_elim (λ (z : from ≡ x). rw (← z) q) (λ (z : from < x). ih f z) (eq-or-lt_of_le a)

-- .. and what is least is found.
pub least-is : (P : ℕ → Bool) (from n s : ℕ) → Earliest P from s → s < from + n → least_from P from n ≡ at s
least-is P from n s r h = go (least_from P from n) refl
  where
    go : (f : Found) → least_from P from n ≡ f → f ≡ at s
    go nothing e = absurd (not-both (P s) r.holds (least-none P from n e s r.low h))
    go (at t) e = answers-same P P from (at t) (at s) (λ x l. refl) (least-found P from n t e).0 r

-- two tests that agree where they are tried find the same
pub least-same : (P Q : ℕ → Bool) (from n : ℕ) → ((x : ℕ) → from ≤ x → x < from + n → P x ≡ Q x) → least_from P from n ≡ least_from Q from n
unfolding least_from
least-same P Q from zero f = refl
least-same P Q from (suc n) f =
    step (P from) (Q from) _ _ (f from (omega arith) (omega arith)) (least-same P Q (suc from) n (λ x l m. f x (omega arith) (omega arith)))
  where
    step : (p q : Bool) (x y : Found) → p ≡ q → x ≡ y → ◌≡◌ {A = Found} (elim p [ true ↦ at from | false ↦ x ]) (elim q [ true ↦ at from | false ↦ y ])
    step true true x y e g = refl
    step true false x y e g = absurd (not-both true refl e)
    step false true x y e g = absurd (not-both true refl (sym e))
    step false false x y e g = g

-- From `last` on, what holds at an instant holds one earlier too. Then trying up to `last` is trying all.
module _ (P : ℕ → Bool) (from last : ℕ) (back : (y : ℕ) → last ≤ y → P (suc y) ≡ true → P y ≡ true) where
  down : (n m : ℕ) → last ≤ m → P (m + n) ≡ true → P m ≡ true
  down zero m l h =
      let e : m + 0 ≡ m = omega arith in
      rw e at h
  down (suc n) m l h =
      let e : m + suc n ≡ suc (m + n) = omega arith in
      down n m l (back (m + n) (omega arith) (rw e at h))

  pub least-answers : Answers P from (least_from P from (suc (last - from)))
  least-answers = go (least_from P from (suc (last - from))) refl
    where
      m : ℕ
      m = max from last

      go : (f : Found) → least_from P from (suc (last - from)) ≡ f → Answers P from f
      go nothing e = λ x a.
          ⊎_elim
          (λ (l : m < x).
          let q : m + (x - m) ≡ x = omega arith in
          no_way (P x) (λ h. not-both (P m) (down (x - m) m (omega arith) (rw q h)) (least-none P from (suc (last - from)) e m (omega arith) (omega arith))))
          (λ (l : x ≤ m). least-none P from (suc (last - from)) e x a (omega arith))
          (lt-or-ge m x)
      go (at s) e = (least-found P from (suc (last - from)) s e).0

  pub answer-is : (f : Found) → Answers P from f → least_from P from (suc (last - from)) ≡ f
  answer-is f w = answers-same P P from (least_from P from (suc (last - from))) f (λ x l. refl) least-answers w

-- The greatest that f gives for one of a list: with one more behind it, at least that of each, at most what all are.
module _ {A : Type 0} (f : A → ℕ) where
  pub greatest-snoc : (xs : List A) (x : A) → greatest_of (map f (xs ++ (x ∷ []))) ≡ max (greatest_of (map f xs)) (f x)
  unfolding greatest_of
  greatest-snoc [] x = omega arith
  greatest-snoc (y ∷ xs) x = rw (greatest-snoc xs x) (omega arith)

  pub greatest-each : (d : A) (xs : List A) (k : ℕ) → k < length xs → f (get_or xs k d) ≤ greatest_of (map f xs)
  unfolding greatest_of
  greatest-each d [] k l = absurd (omega arith)
  greatest-each d (x ∷ xs) zero l = omega arith
  greatest-each d (x ∷ xs) (suc k) l = omega (arith, greatest-each d xs k (omega arith))

  pub greatest-most : (d : A) (xs : List A) (m : ℕ) → ((k : ℕ) → k < length xs → f (get_or xs k d) ≤ m) → greatest_of (map f xs) ≤ m
  unfolding greatest_of
  greatest-most d [] m g = omega arith
  greatest-most d (x ∷ xs) m g = omega (arith, g 0 (omega arith), greatest-most d xs m (λ k l. g (suc k) (omega arith)))
