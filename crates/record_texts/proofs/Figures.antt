-- Decimal digits: the fewest that `io` makes of a number are the definition's, and they are at most 20.
use mathlib.Core.Path.{◌≡◌, refl, ap, ◌∙◌}
use mathlib.Core.Bool.{Bool, true, false, cond}
use mathlib.Core.List.{List, [], ◌∷◌, ◌++◌}
use Prim.Native.Nat.{ℕ, zero, suc, ◌+◌, ◌-◌, ◌/◌, ◌%◌, ◌^◌, ◌≤◌, ◌<◌}
use native.Mathlib.Nat.{one-le-pow}
use native.Mathlib.Omega.{arith}
use lib.Dec.{ltb}
use borrow.Author.Tests.{lt-ltb, ltb-true, ltb-false}
use Rattle.io.specs.Digits.{hex_digit_ascii, last_digits, IsDigitCount}
use Rattle.record_texts.specs.Text.{decimal_to}

-- a digit below 10
figure : (d : ℕ) → d < 10 → hex_digit_ascii d ≡ 48 + d
figure d h = rw (lt-ltb d 10 h)

one : (n r : ℕ) → n < 10 → IsDigitCount 10 1 n r → r ≡ 1
one n zero h f = absurd (omega (arith, f.0))
one n (suc zero) h f = refl
one n (suc (suc k)) h f =
    let m : suc (suc k) - 1 ≡ suc k = omega arith in
    let q : 10 ^ suc k ≤ n = rw m at (f.2 (omega arith)) in
    absurd (omega (arith, one-le-pow k 10 (omega arith)))

-- one digit
single : (n r : ℕ) → n < 10 → IsDigitCount 10 1 n r → last_digits 10 r n ≡ (48 + n) ∷ []
single n r h f =
    let e : r ≡ 1 = one n r h f in
    let m : n % 10 ≡ n = omega arith in
    let g : hex_digit_ascii (n % 10) ≡ 48 + n = figure (n % 10) (omega arith) ∙ ap (λ (x : ℕ). 48 + x) m in
    ap (λ (x : ℕ). last_digits 10 x n) e ∙ ap (λ (x : ℕ). x ∷ []) g

shorter : (n r : ℕ) → 10 ≤ n → IsDigitCount 10 1 n (suc r) → IsDigitCount 10 1 (n / 10) r
shorter n zero h f = absurd (omega (arith, f.1))
shorter n (suc zero) h f = (omega arith, omega (arith, f.1), λ l. absurd (omega arith))
shorter n (suc (suc k)) h f =
    let m : suc (suc (suc k)) - 1 ≡ suc (suc k) = omega arith in
    let o : suc (suc k) - 1 ≡ suc k = omega arith in
    let q : 10 ^ suc (suc k) ≤ n = rw m at (f.2 (omega arith)) in
    (omega arith, omega (arith, f.1), λ l. rw o (omega arith))

pub digits_decimal : (k n r : ℕ) → r ≤ suc k → IsDigitCount 10 1 n r → last_digits 10 r n ≡ decimal_to k n
unfolding decimal_to
digits_decimal zero n zero h f = absurd (omega (arith, f.0))
digits_decimal zero n (suc zero) h f = single n 1 (omega (arith, f.1)) f
digits_decimal zero n (suc (suc r)) h f = absurd (omega arith)
digits_decimal (suc k) n zero h f = absurd (omega (arith, f.0))
digits_decimal (suc k) n (suc r) h f = go (ltb n 10) refl (λ g. digits_decimal k (n / 10) r (omega arith) g)
  where
    go : (q : Bool) → ltb n 10 ≡ q → (IsDigitCount 10 1 (n / 10) r → last_digits 10 r (n / 10) ≡ decimal_to k (n / 10))
        → last_digits 10 (suc r) n ≡ cond q ((48 + n) ∷ []) (decimal_to k (n / 10) ++ ((48 + n % 10) ∷ []))
    go true e ih = single n (suc r) (ltb-true n 10 e) f
    go false e ih =
        ap (λ (x : List ℕ). x ++ (hex_digit_ascii (n % 10) ∷ [])) (ih (shorter n r (ltb-false n 10 e) f))
        ∙ ap (λ (x : ℕ). decimal_to k (n / 10) ++ (x ∷ [])) (figure (n % 10) (omega arith))
