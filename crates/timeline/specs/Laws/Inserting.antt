-- Insertion by start, over anything that has a start: where it goes in, and what each column of 64 cells becomes.
use Rattle.std.specs.Prelude.{◌≡◌, Bool, cond, get_or, take, drop, replicate, leb}
use Rattle.std.proofs.Math.Path.{refl, ap}
use Rattle.std.proofs.Common.{sym, ◌∙◌, ⊎_elim, eq-or-lt_of_le, arith, length-append, ext_get_or, le-leb}
use Rattle.std.proofs.Math.Bool.{true, false}
use mathlib.Core.List.{List, [], ◌∷◌, ◌++◌, map}
use Prim.Native.Nat.{ℕ, zero, suc, ◌-◌, ◌≤◌, ◌<◌}
use Rattle.std.proofs.Math.ListN.{length, get_or-eq_default}
use Rattle.std.proofs.lemmas.List.{length-replicate, length-map}
use Rattle.std.proofs.lemmas.Bool.{lt-leb}
use Rattle.cells.specs.Cells.{Opened}
use Rattle.cells.specs.Laws.Basics.{lt-or-ge}
use Rattle.timeline.specs.Diary.{insert_by_start, cells}

-- a goal by cases on the order of two numbers
by_order : {G : Type 0} (a b : ℕ) → (a < b → G) → (a ≡ b → G) → (b < a → G) → G
by_order a b f g h = ⊎_elim f (λ l. ⊎_elim (λ e. g (sym e)) h (eq-or-lt_of_le l)) (lt-or-ge a b)

-- x put in at index at
abbrev pub put_at : {X : Type 0} → ℕ → X → List X → List X
put_at at x xs = take at xs ++ (x ∷ drop at xs)

module _ {X : Type 0} (start : X → ℕ) where
  -- behind those that start at or before it, and ahead of the others
  pub insert-at : (none x : X) (xs : List X) (at : ℕ) → at ≤ length xs
      → ((k : ℕ) → k < at → start (get_or xs k none) ≤ start x)
      → (at < length xs → start x < start (get_or xs at none))
      → insert_by_start start x xs ≡ put_at at x xs
  unfolding insert_by_start
  insert-at none x [] zero h f g = refl
  insert-at none x [] (suc at) h f g = absurd (omega arith)
  insert-at none x (y ∷ ys) zero h f g = rw (lt-leb (start y) (start x) (g (omega arith))) refl
  insert-at none x (y ∷ ys) (suc at) h f g =
      rw (le-leb (start y) (start x) (f 0 (omega arith)))
      (ap (λ l. y ∷ l) (insert-at none x ys at (omega arith) (λ k l. f (suc k) (omega arith)) (λ l. g (omega arith))))

  pub length_inserted : (x : X) (xs : List X) → length (insert_by_start start x xs) ≡ suc (length xs)
  unfolding insert_by_start
  length_inserted x [] = refl
  length_inserted x (y ∷ ys) = go (leb (start y) (start x)) (length_inserted x ys)
    where
      go : (k : Bool) → length (insert_by_start start x ys) ≡ suc (length ys) → length (cond k (y ∷ insert_by_start start x ys) (x ∷ y ∷ ys)) ≡ suc (suc (length ys))
      go true e = ap suc e
      go false e = refl

put_low : {X : Type 0} (none : X) (at : ℕ) (x : X) (xs : List X) → at ≤ length xs → (k : ℕ) → k < at → get_or (put_at at x xs) k none ≡ get_or xs k none
put_low none zero x xs h k l = absurd (omega arith)
put_low none (suc at) x [] h k l = absurd (omega arith)
put_low none (suc at) x (y ∷ ys) h zero l = refl
put_low none (suc at) x (y ∷ ys) h (suc k) l = put_low none at x ys (omega arith) k (omega arith)

put-here : {X : Type 0} (none : X) (at : ℕ) (x : X) (xs : List X) → at ≤ length xs → get_or (put_at at x xs) at none ≡ x
put-here none zero x xs h = refl
put-here none (suc at) x [] h = absurd (omega arith)
put-here none (suc at) x (y ∷ ys) h = put-here none at x ys (omega arith)

put-high : {X : Type 0} (none : X) (at : ℕ) (x : X) (xs : List X) → at ≤ length xs → (k : ℕ) → at ≤ k
    → get_or (put_at at x xs) (suc k) none ≡ get_or xs k none
put-high none zero x xs h k l = refl
put-high none (suc at) x [] h k l = absurd (omega arith)
put-high none (suc at) x (y ∷ ys) h zero l = absurd (omega arith)
put-high none (suc at) x (y ∷ ys) h (suc k) l = put-high none at x ys (omega arith) k (omega arith)

pub put-length : {X : Type 0} (at : ℕ) (x : X) (xs : List X) → at ≤ length xs → length (put_at at x xs) ≡ suc (length xs)
put-length zero x xs h = refl
put-length (suc at) x [] h = absurd (omega arith)
put-length (suc at) x (y ∷ ys) h = ap suc (put-length at x ys (omega arith))

put_map : {X : Type 0} (f : X → ℕ) (at : ℕ) (x : X) (xs : List X) → map f (put_at at x xs) ≡ put_at at (f x) (map f xs)
put_map f zero x xs = refl
put_map f (suc at) x [] = refl
put_map f (suc at) x (y ∷ ys) = ap (λ l. f y ∷ l) (put_map f at x ys)

pad-zero : (n k : ℕ) → get_or {A = ℕ} (replicate n 0) k 0 ≡ 0
pad-zero zero k = refl
pad-zero (suc n) zero = refl
pad-zero (suc n) (suc k) = pad-zero n k

-- zeros behind a list change nothing that is read
pub pad-at : (xs : List ℕ) (n k : ℕ) → get_or (xs ++ replicate n 0) k 0 ≡ get_or xs k 0
pad-at [] n k = pad-zero n k
pad-at (x ∷ xs) n zero = refl
pad-at (x ∷ xs) n (suc k) = pad-at xs n k

cells-length : (xs : List ℕ) → length xs ≤ 64 → length (cells xs) ≡ 64
cells-length xs h = simp (length-append, length-replicate) (omega arith)

-- a column of 64 cells is what a list of n numbers, with zeros behind them, makes
pub column : (xs ys : List ℕ) (n : ℕ) → length xs ≡ 64 → n ≤ 64 → length ys ≡ n
    → ((k : ℕ) → k < n → get_or xs k 0 ≡ get_or ys k 0)
    → ((k : ℕ) → n ≤ k → k < 64 → get_or xs k 0 ≡ 0)
    → xs ≡ cells ys
column xs ys n l m q f g =
    ext_get_or 0 xs (cells ys) (l ∙ sym (cells-length ys (omega arith)))
    (λ k h. ⊎_elim
    (λ (a : k < n). f k a ∙ sym (pad-at ys (64 - length ys) k))
    (λ (a : n ≤ k). g k a (omega arith) ∙ sym (get_or-eq_default ys 0 (omega arith)) ∙ sym (pad-at ys (64 - length ys) k))
    (lt-or-ge k n))

-- a column with a number put in
opened-cells : (xs ys : List ℕ) (at v : ℕ) → at ≤ length xs → length xs < 64 → length ys ≡ 64 → Opened (cells xs) at (length xs) v ys
    → ys ≡ cells (put_at at v xs)
opened-cells xs ys at v h room long o =
    column ys (put_at at v xs) (suc (length xs)) long (omega arith) (put-length at v xs h)
    (λ k l. by_order k at
    (λ m. o.low k 0 m ∙ pad-at xs (64 - length xs) k ∙ sym (put_low 0 at v xs h k m))
    (λ e. rw e (o.here 0 ∙ sym (put-here 0 at v xs h)))
    (λ m.
    let j = k - 1 in
    let q : k ≡ suc j = omega arith in
    let d : suc j - 1 ≡ j = omega arith in
    rw q (rw d at (o.high (suc j) 0 (omega arith) (omega arith)) ∙ pad-at xs (64 - length xs) j ∙ sym (put-high 0 at v xs h j (omega arith)))))
    (λ k l m. o.rest k 0 (omega arith) ∙ pad-at xs (64 - length xs) k ∙ get_or-eq_default xs 0 (omega arith))

-- the column of a field with a record put in
pub opened-field : {X : Type 0} (f : X → ℕ) (x : X) (rs : List X) (xs ys : List ℕ) (at : ℕ) → xs ≡ cells (map f rs) → at ≤ length rs → length rs < 64
    → length ys ≡ 64 → Opened xs at (length rs) (f x) ys → ys ≡ cells (map f (put_at at x rs))
opened-field f x rs xs ys at e h room long o =
    let n : length (map f rs) ≡ length rs = length-map rs f in
    opened-cells (map f rs) ys at (f x) (omega arith) (omega arith) long (rw (← e, n) o) ∙ ap cells (sym (put_map f at x rs))
