-- How many of the first numbers pass a test: none, at most all, one number more, and fewer than all where one does not.
use Rattle.std.proofs.Common.{lt-ltb, le-ltb, ⊎_elim, eq-or-lt_of_le, arith}
use Rattle.std.specs.Prelude.{Bool, true, false, cond, ◌≡◌, refl, ℕ, zero, suc, ◌+◌, ◌≤◌, ◌<◌, ltb}
use Rattle.cells.specs.Laws.Basics.{same_or_not}
use Rattle.board.specs.Laws.Facts.{same-side}

unfoldable pub count_to : (ℕ → Bool) → ℕ → ℕ
count_to P zero = 0
count_to P (suc m) = count_to P m + cond (P m) 1 0

pub count_none : (P : ℕ → Bool) → ((k : ℕ) → P k ≡ false) → (m : ℕ) → count_to P m ≡ 0
unfolding count_to
count_none P f zero = refl
count_none P f (suc m) = rw (count_none P f m, f m) refl

one-most : (p : Bool) → cond p 1 0 ≤ 1
one-most true = omega arith
one-most false = omega arith

pub count_most : (P : ℕ → Bool) (m : ℕ) → count_to P m ≤ m
unfolding count_to
count_most P zero = omega arith
count_most P (suc m) = omega (arith, count_most P m, one-most (P m))

pub count-more : (P Q : ℕ → Bool) (c : ℕ) → P c ≡ false → Q c ≡ true → ((k : ℕ) → (k ≡ c → ⊥) → Q k ≡ P k) → (m : ℕ) → count_to Q m ≡ count_to P m + cond (ltb c m) 1 0
unfolding count_to
count-more P Q c p q f zero = rw (le-ltb c 0 (omega arith)) refl
count-more P Q c p q f (suc m) =
    ⊎_elim
    (λ (z : c ≡ m).
    let x : Q m ≡ true = rw (← z) q in
    let y : P m ≡ false = rw (← z) p in
    rw (count-more P Q c p q f m, x, y, le-ltb c m (omega arith), lt-ltb c (suc m) (omega arith)) (omega arith))
    (λ (z : m ≡ c → ⊥). rw (count-more P Q c p q f m, f m z, same-side c m z) (omega arith))
    (same_or_not c m)

pub count-short : (P : ℕ → Bool) (m n : ℕ) → n < m → P n ≡ false → count_to P m < m
unfolding count_to
count-short P zero n l e = absurd (omega arith)
count-short P (suc m) n l e =
    ⊎_elim
    (λ (q : n ≡ m). let z : P m ≡ false = rw (← q) e in rw z (omega (arith, count_most P m)))
    (λ (q : n < m). omega (arith, count-short P m n q e, one-most (P m)))
    (eq-or-lt_of_le (omega arith))
