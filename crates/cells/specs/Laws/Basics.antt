-- Small facts on tests, numbers and the cells of an array.
use Rattle.std.specs.Prelude.{◌≡◌, refl, Bool, true, false, ◌&&◌, ◌||◌, cond, List, [], ◌∷◌, ◌++◌, ◌⊎◌, ℕ, suc, ◌+◌, ◌-◌, ◌≤◌, ◌<◌, length, get_or, set, take, drop, ltb, eqb}
use Rattle.std.proofs.Common.{sym, ◌∙◌, inl, inr, ⊎_elim, arith, get_or-set_same, get_or-set_other, take-suc, take-add, ltb-true, ltb-false, eqb-true}
use Rattle.std.proofs.lemmas.Bool.{eqb-false}

pub and_split : (a b : Bool) → a && b ≡ true → (a ≡ true) × (b ≡ true)
and_split true b e = (refl, e)
and_split false b e = (e, cc)

pub and-join : (a b : Bool) → a ≡ true → b ≡ true → a && b ≡ true
and-join a b p q = rw (p, q) refl

pub not-both : (b : Bool) → b ≡ true → b ≡ false → ⊥
not-both b p q = let z : ◌≡◌ {A = ℕ} 0 1 = cc in omega arith

pub or_left : (p q : Bool) → p || q ≡ false → p ≡ false
or_left true q e = e
or_left false q e = refl

pub or_right : (p q : Bool) → p || q ≡ false → q ≡ false
or_right true q e = absurd (not-both true refl e)
or_right false q e = e

pub no_way : (b : Bool) → (b ≡ true → ⊥) → b ≡ false
no_way true f = absurd (f refl)
no_way false f = refl

pub lt-or-ge : (a b : ℕ) → (a < b) ⊎ (b ≤ a)
lt-or-ge a b = go (ltb a b) refl
  where
    go : (q : Bool) → ltb a b ≡ q → (a < b) ⊎ (b ≤ a)
    go true e = inl (ltb-true a b e)
    go false e = inr (ltb-false a b e)

pub same_or_not : (a b : ℕ) → (a ≡ b) ⊎ (b ≡ a → ⊥)
same_or_not a b = go (eqb a b) refl
  where
    go : (q : Bool) → eqb a b ≡ q → (a ≡ b) ⊎ (b ≡ a → ⊥)
    go true e = inl (eqb-true a b e)
    go false e = inr (λ q. eqb-false a b e (sym q))

-- a check that was passed: no refusal, so the test failed and the checks behind it were passed too
pub unrefused : (p : Bool) (n m : ℕ) → cond p (suc n) m ≡ 0 → (p ≡ false) × (m ≡ 0)
unrefused true n m e = absurd (omega arith)
unrefused false n m e = (refl, e)

-- filled cell by cell
pub filled_next : {A : Type 0} (f : ℕ → A) (xs : List A) (i : ℕ) (v d : A) → i < length xs → ((k : ℕ) → k < i → get_or xs k d ≡ f k) → v ≡ f i
    → (k : ℕ) → k < i + 1 → get_or (set xs i v) k d ≡ f k
filled_next f xs i v d l h e k m =
    ⊎_elim
    (λ (z : i ≡ k). rw (← z) (get_or-set_same xs i v d l ∙ e))
    (λ (z : k ≡ i → ⊥). get_or-set_other xs i k v d z ∙ h k (omega (arith, z)))
    (same_or_not i k)

-- the first cells of an array: one more
pub take_next : {A : Type 0} (xs : List A) (i : ℕ) (d : A) → i < length xs → take (i + 1) xs ≡ take i xs ++ (get_or xs i d ∷ [])
take_next xs i d l =
    let z : i + 1 ≡ suc i = omega arith in
    rw z (take-suc xs i d l)

-- the first i + 1 of n, and the rest
pub take_split : {A : Type 0} (xs : List A) (i n : ℕ) → i < n → take n xs ≡ take (i + 1) xs ++ take (n - (i + 1)) (drop (i + 1) xs)
take_split xs i n l =
    let z : i + 1 + (n - (i + 1)) ≡ n = omega arith in
    rw z at (take-add (i + 1) (n - (i + 1)) xs)

pub or-in-left : (p q : Bool) → p ≡ true → p || q ≡ true
or-in-left p q e = rw e refl

pub or-in-right : (p q : Bool) → q ≡ true → p || q ≡ true
or-in-right true q e = refl
or-in-right false q e = e

pub or_cases : (p q : Bool) → p || q ≡ true → (p ≡ true) ⊎ (q ≡ true)
or_cases true q e = inl refl
or_cases false q e = inr e

-- two tests that hold together are the same
pub both_ways : (p q : Bool) → (p ≡ true → q ≡ true) → (q ≡ true → p ≡ true) → p ≡ q
both_ways true q f g = sym (f refl)
both_ways false true f g = g refl
both_ways false false f g = refl
