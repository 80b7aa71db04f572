-- The first cells of an array as a list; an array filled cell by cell.
use Rattle.std.specs.Prelude.{◌≡◌, refl, List, [], ◌∷◌, ◌++◌, map, ℕ, zero, suc, ◌+◌, ◌≤◌, ◌<◌, length, get_or, set, take}
use Rattle.std.proofs.Common.{append_assoc, arith, take-suc-set}
use Rattle.cells.specs.Laws.Basics.{take_next}
use Rattle.cells.specs.Every.{Each, each_end, each_on, Pairs, pairs_end, pairs_on}

module _ {A B : Type 0} (f : A → B) where
  -- cell by cell the image of another array
  pub cells-map : (d : A) (e : B) (n : ℕ) (xs : List A) (ys : List B) → n ≤ length xs → n ≤ length ys
      → ((k : ℕ) → k < n → get_or ys k e ≡ f (get_or xs k d)) → take n ys ≡ map f (take n xs)
  cells-map d e zero xs ys l m h = refl
  cells-map d e (suc n) [] ys l m h = absurd (omega arith)
  cells-map d e (suc n) (x ∷ xs) [] l m h = absurd (omega arith)
  cells-map d e (suc n) (x ∷ xs) (y ∷ ys) l m h = rw (h 0 (omega arith), cells-map d e n xs ys (omega arith) (omega arith) (λ k i. h (suc k) (omega arith))) refl

-- one more behind those that stand there
pub pushed-next : {A : Type 0} (xs ms base : List A) (n i : ℕ) (d : A) → n + i < length xs → i < length ms → take (n + i) xs ≡ base ++ take i ms
    → take (n + (i + 1)) (set xs (n + i) (get_or ms i d)) ≡ base ++ take (i + 1) ms
pushed-next xs ms base n i d l m e =
    let z : n + (i + 1) ≡ suc (n + i) = omega arith in
    rw (z, take-suc-set xs (n + i) (get_or ms i d) l, e, take_next ms i d m) (append_assoc base (take i ms) (get_or ms i d ∷ []))

module _ {A : Type 0} (P : A → Type 0) (d : A) where
  pub each_at : (xs : List A) → Each P xs → (k : ℕ) → k < length xs → P (get_or xs k d)
  each_at [] each_end k l = absurd (omega arith)
  each_at (x ∷ xs) (each_on p e) zero l = p
  each_at (x ∷ xs) (each_on p e) (suc k) l = each_at xs e k (omega arith)

  -- what holds of every cell below n holds of each of the first n
  pub each-cells : (n : ℕ) (xs : List A) → ((k : ℕ) → k < n → k < length xs → P (get_or xs k d)) → Each P (take n xs)
  each-cells zero xs h = each_end
  each-cells (suc n) [] h = each_end
  each-cells (suc n) (x ∷ xs) h = each_on (h 0 (omega arith) (omega arith)) (each-cells n xs (λ k l m. h (suc k) (omega arith) (omega arith)))

-- and of two arrays cell by cell
pub pairs-cells : {A : Type 0} (R : A → A → Type 0) (d : A) (n : ℕ) (xs ys : List A) → n ≤ length xs → n ≤ length ys → ((i : ℕ) → i < n → R (get_or xs i d) (get_or ys i d))
    → Pairs R (take n xs) (take n ys)
pairs-cells R d zero xs ys l m f = pairs_end
pairs-cells R d (suc n) [] ys l m f = absurd (omega arith)
pairs-cells R d (suc n) (x ∷ xs) [] l m f = absurd (omega arith)
pairs-cells R d (suc n) (x ∷ xs) (y ∷ ys) l m f = pairs_on (f 0 (omega arith)) (pairs-cells R d n xs ys (omega arith) (omega arith) (λ i h. f (suc i) (omega arith)))
