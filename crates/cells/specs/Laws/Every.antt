-- Laws of 'each': over a list, and over a run of indexes.
use Rattle.std.specs.Prelude.{◌≡◌, Bool, true, false, ◌&&◌, length, get_or, take, drop}
use Rattle.std.proofs.Math.Path.{refl, sym, ap}
use Rattle.std.proofs.Common.{◌∙◌, eq-or-lt_of_le, length-take, drop_of_length-le, get_or-take}
use Rattle.std.proofs.Math.Bool.{and_assoc, and-false}
use mathlib.Core.List.{List, [], ◌∷◌, ◌++◌, map}
use Rattle.std.proofs.Math.Logic.{⊎_elim}
use Prim.Native.Nat.{ℕ, zero, suc, ◌+◌, ◌-◌, ◌≤◌, ◌<◌}
use Rattle.std.proofs.Math.Numerals.{add-one}
use native.Mathlib.Omega.{arith}
use Rattle.std.proofs.Math.Seq.{drop-cons}
use Rattle.cells.specs.Laws.Basics.{and_split, and-join, take_next, take_split}
use Rattle.cells.specs.Every.{every, every_from}

-- Over a list: what is left of it decides as all of it does.
module _ {A : Type 0} (P : A → Bool) (xs : List A) where
  every-step : (i : ℕ) (d : A) → i < length xs → every P (drop i xs) ≡ P (get_or xs i d) && every P (drop (i + 1) xs)
  unfolding every
  every-step i d lt = rw (add-one, drop-cons xs i d lt) refl

  -- element i fails, passes, or there is none left
  pub all-stop : (i : ℕ) (d : A) → every P xs ≡ every P (drop i xs) → i < length xs → P (get_or xs i d) ≡ false → false ≡ every P xs
  all-stop i d v lt e = sym (v ∙ every-step i d lt ∙ rw e refl)

  pub all_more : (i : ℕ) (d : A) → every P xs ≡ every P (drop i xs) → i < length xs → P (get_or xs i d) ≡ true → every P xs ≡ every P (drop (i + 1) xs)
  all_more i d v lt e = v ∙ every-step i d lt ∙ rw e refl

  pub all_done : (i : ℕ) → every P xs ≡ every P (drop i xs) → length xs ≤ i → true ≡ every P xs
  unfolding every
  all_done i v le = sym (v ∙ rw (drop_of_length-le xs {i = i} le) refl)

-- the same over the first n
module _ {A : Type 0} (P : A → Bool) (xs : List A) (n i : ℕ) where
  pub first-stop : (d : A) → every P (take n xs) ≡ every P (drop i (take n xs)) → i < n → n ≤ length xs → P (get_or xs i d) ≡ false → false ≡ every P (take n xs)
  first-stop d v lt le e = all-stop P (take n xs) i d v (simp length-take (omega arith)) (rw (get_or-take n xs i d lt) e)

  pub first_more : (d : A) → every P (take n xs) ≡ every P (drop i (take n xs)) → i < n → n ≤ length xs → P (get_or xs i d) ≡ true
      → every P (take n xs) ≡ every P (drop (i + 1) (take n xs))
  first_more d v lt le e = all_more P (take n xs) i d v (simp length-take (omega arith)) (rw (get_or-take n xs i d lt) e)

  pub first_done : every P (take n xs) ≡ every P (drop i (take n xs)) → n ≤ i → true ≡ every P (take n xs)
  first_done v le = all_done P (take n xs) i v (simp length-take (omega arith))

-- what holds of every one holds of each, and past the end of what stands there
pub every-at : {A : Type 0} (P : A → Bool) (xs : List A) (i : ℕ) (d : A) → P d ≡ true → every P xs ≡ true → P (get_or xs i d) ≡ true
unfolding every
every-at P [] i d z e = z
every-at P (x ∷ xs) zero d z e = (and_split (P x) (every P xs) e).0
every-at P (x ∷ xs) (suc i) d z e = every-at P xs i d z (and_split (P x) (every P xs) e).1

pub every_in : {A : Type 0} (P : A → Bool) (xs : List A) (i : ℕ) (d : A) → i < length xs → every P xs ≡ true → P (get_or xs i d) ≡ true
unfolding every
every_in P [] i d lt e = absurd (omega arith)
every_in P (x ∷ xs) zero d lt e = (and_split (P x) (every P xs) e).0
every_in P (x ∷ xs) (suc i) d lt e = every_in P xs i d (omega arith) (and_split (P x) (every P xs) e).1

-- of the first n
pub first-at : {A : Type 0} (P : A → Bool) (d : A) (n : ℕ) (xs : List A) → n ≤ length xs → every P (take n xs) ≡ true → (i : ℕ) → i < n → P (get_or xs i d) ≡ true
first-at P d n xs l e i m = rw (get_or-take n xs i d m) at (every_in P (take n xs) i d (simp length-take (omega arith)) e)

pub every_of : {A : Type 0} (P : A → Bool) (xs : List A) (d : A) → ((i : ℕ) → i < length xs → P (get_or xs i d) ≡ true) → every P xs ≡ true
unfolding every
every_of P [] d f = refl
every_of P (x ∷ xs) d f = and-join (P x) (every P xs) (f 0 (omega arith)) (every_of P xs d (λ i l. f (suc i) (omega arith)))

module _ {A : Type 0} (P : A → Bool) where
  pub every_append : (xs ys : List A) → every P (xs ++ ys) ≡ every P xs && every P ys
  unfolding every
  every_append [] ys = refl
  every_append (x ∷ xs) ys = ap (λ (p : Bool). P x && p) (every_append xs ys) ∙ sym (and_assoc (P x) (every P xs) (every P ys))

  module _ (d : A) (xs : List A) where
    -- one that passes
    pub every-next : (i : ℕ) → i < length xs → every P (take i xs) ≡ true → P (get_or xs i d) ≡ true → every P (take (i + 1) xs) ≡ true
    unfolding every
    every-next i l e p = ap (every P) (take_next xs i d l) ∙ every_append (take i xs) (get_or xs i d ∷ []) ∙ rw (e, p) refl

    every-fails : (i : ℕ) → i < length xs → P (get_or xs i d) ≡ false → every P (take (i + 1) xs) ≡ false
    unfolding every
    every-fails i l p = ap (every P) (take_next xs i d l) ∙ every_append (take i xs) (get_or xs i d ∷ []) ∙ rw p (and-false (every P (take i xs)))

    -- one that fails makes all fail
    pub every-off : (i n : ℕ) → i < n → n ≤ length xs → P (get_or xs i d) ≡ false → every P (take n xs) ≡ false
    every-off i n l m p =
        ap (every P) (take_split xs i n l)
        ∙ every_append (take (i + 1) xs) (take (n - (i + 1)) (drop (i + 1) xs))
        ∙ rw (every-fails i (omega arith) p) refl

pub every_map : {A B : Type 0} (P : B → Bool) (f : A → B) (xs : List A) → every P (map f xs) ≡ every (λ x. P (f x)) xs
unfolding every
every_map P f [] = refl
every_map P f (x ∷ xs) = ap (λ (q : Bool). P (f x) && q) (every_map P f xs)

-- two tests that agree where a third holds
pub every-where : {A : Type 0} (N P Q : A → Bool) (xs : List A) → ((x : A) → N x ≡ true → P x ≡ Q x) → every N xs ≡ true → every P xs ≡ every Q xs
unfolding every
every-where N P Q [] h e = refl
every-where N P Q (x ∷ xs) h e =
    let w = and_split (N x) (every N xs) e in
    rw (h x w.0, every-where N P Q xs h w.1) refl

-- Over indexes: how the definition goes on by one, and what it says of each.
module _ (P : ℕ → Bool) where
  pub from_step : (i n : ℕ) → i < n → every_from P i (n - i) ≡ P i && every_from P (i + 1) (n - (i + 1))
  unfolding every_from
  from_step i n h =
      let e : n - i ≡ suc (n - (i + 1)) = omega arith in
      rw (e, add-one i)

  pub from_end : (i n : ℕ) → n ≤ i → every_from P i (n - i) ≡ true
  unfolding every_from
  from_end i n h =
      let e : n - i ≡ 0 = omega arith in
      rw e refl

  -- what is left decides as all do: index i fails, passes, or there is none left
  module _ {b : Bool} {i n : ℕ} (v : b ≡ every_from P i (n - i)) where
    pub from-stop : i < n → P i ≡ false → false ≡ b
    from-stop l e = sym (v ∙ from_step i n l ∙ rw e refl)

    pub from_more : i < n → P i ≡ true → b ≡ every_from P (i + 1) (n - (i + 1))
    from_more l e = v ∙ from_step i n l ∙ rw e refl

    pub from-done : n ≤ i → true ≡ b
    from-done l = sym (v ∙ from_end i n l)

  pub from_at : (i k : ℕ) → every_from P i k ≡ true → (j : ℕ) → i ≤ j → j < i + k → P j ≡ true
  unfolding every_from
  from_at i zero e j h l = absurd (omega arith)
  from_at i (suc k) e j h l =
      let w = and_split (P i) (every_from P (suc i) k) e in
      ⊎_elim
      (λ (q : i ≡ j). rw (← q) w.0)
      (λ (q : i < j). from_at (suc i) k w.1 j q (omega arith))
      (eq-or-lt_of_le h)

  pub from_all : (i k : ℕ) → ((j : ℕ) → i ≤ j → j < i + k → P j ≡ true) → every_from P i k ≡ true
  unfolding every_from
  from_all i zero f = refl
  from_all i (suc k) f = and-join _ _ (f i (omega arith) (omega arith)) (from_all (suc i) k (λ j h l. f j (omega arith) (omega arith)))

pub from-same : (P Q : ℕ → Bool) (i k : ℕ) → ((j : ℕ) → i ≤ j → j < i + k → P j ≡ Q j) → every_from P i k ≡ every_from Q i k
unfolding every_from
from-same P Q i zero f = refl
from-same P Q i (suc k) f = rw (f i (omega arith) (omega arith), from-same P Q (suc i) k (λ j h l. f j (omega arith) (omega arith))) refl
