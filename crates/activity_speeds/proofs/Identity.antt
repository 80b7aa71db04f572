-- A value that a format holds is written in one way, so `round` leaves it as it is, and 1.0 times it is itself.
use mathlib.Core.Path.{◌≡◌, refl, sym, ap, ◌∙◌, subst}
use Prim.Native.Nat.{ℕ, zero, suc, ◌+◌, ◌-◌, ◌*◌, ◌%◌, ◌^◌, ◌≤◌, ◌<◌}
use native.Mathlib.Nat.{suc_inj, le_of_eq, lt_of_lt_of_le, lt_of_not-le, lt_irrefl, le_of_suc-le-suc, zero-lt-suc, mul-pos, mul-one, one-mul, mul_assoc, mul_comm, mul_left_comm, mul_right_comm, mul-lt-mul_of_pos_right, eq_of_mul-eq-mul_right, lt_of_mul-lt-mul_right, pow-succ', pow-suc}
use native.Mathlib.Omega.{arith}
use mathlib.Core.Bool.{Bool, true, false, ◌&&◌}
use lib.IntN.{ℤ, pos, negsuc}
use lib.Dec.{T, leb, ltb, eqb, leb→le, ltb→lt, eqb→eq}
use lib.Pow.{pow-add, pow_pos, pow-lt}
use lib.Ieee.{Float, nan, inf, fin, Format, binary64, prec, emax, low, up, down, round, mul, fits}
use lib.Ieee.Fits.{down_pos, and_l, and_r, round-fits}
use lib.Ieee.Exact.{HasValue, round_exact}
use lib.Ieee.Positive.{num, den, positive, den_pos, own_value, value→cross, mul_at, positive_of_value}
use lib.Ieee.Scale.{round_same}
use Rattle.activity_speeds.specs.Speeds.{one}
use Rattle.activity_speeds.proofs.Bounds.{num_pos}

-- an odd number times a power of two, in one way (`lib.Ieee.Back` keeps its own to itself)
even_odd : (m t : ℕ) → m % 2 ≡ 1 → m ≡ 2 * t → ⊥
even_odd m t o h = omega arith

odd_pow : (m n a b : ℕ) → m % 2 ≡ 1 → n % 2 ≡ 1 → m * 2 ^ a ≡ n * 2 ^ b → (m ≡ n) × (a ≡ b)
odd_pow m n zero zero o p h = (sym (mul-one m) ∙ h ∙ mul-one n, refl)
odd_pow m n zero (suc b) o p h = absurd (even_odd m (n * 2 ^ b) o (sym (mul-one m) ∙ h ∙ ap (λ (x : ℕ). n * x) (pow-succ' 2 b) ∙ mul_left_comm n 2 (2 ^ b)))
odd_pow m n (suc a) zero o p h = absurd (even_odd n (m * 2 ^ a) p (sym (mul-one n) ∙ sym h ∙ ap (λ (x : ℕ). m * x) (pow-succ' 2 a) ∙ mul_left_comm m 2 (2 ^ a)))
odd_pow m n (suc a) (suc b) o p h =
    let r = odd_pow m n a b o p (eq_of_mul-eq-mul_right 2 (zero-lt-suc 1) (m * 2 ^ a) (n * 2 ^ b)
    (mul_assoc m (2 ^ a) 2 ∙ ap (λ (x : ℕ). m * x) (sym (pow-suc 2 a)) ∙ h ∙ ap (λ (x : ℕ). n * x) (pow-suc 2 b) ∙ sym (mul_assoc n (2 ^ b) 2))) in
    (r.0, ap suc r.1)

no_zero : (a b : ℕ) → a + suc b ≡ 0 → ⊥
no_zero a b h = omega arith

-- the two exponents and the two odd numbers agree
same_parts : (m n : ℕ) (e d : ℤ) → m % 2 ≡ 1 → n % 2 ≡ 1 → m * up e * down d ≡ n * up d * down e → (m ≡ n) × (e ≡ d)
same_parts m n (pos a) (pos b) o p h =
    let r = odd_pow m n a b o p (sym (mul-one (m * 2 ^ a)) ∙ h ∙ mul-one (n * 2 ^ b)) in (r.0, ap pos r.1)
same_parts m n (pos a) (negsuc b) o p h =
    absurd (no_zero a b (odd_pow m n (a + suc b) 0 o p (ap (λ (x : ℕ). m * x) (pow-add 2 a (suc b)) ∙ sym (mul_assoc m (2 ^ a) (2 ^ suc b)) ∙ h ∙ mul-one (n * 1))).1)
same_parts m n (negsuc a) (pos b) o p h =
    absurd (no_zero b a (sym (odd_pow m n 0 (b + suc a) o p (sym (mul-one (m * 1)) ∙ h ∙ mul_assoc n (2 ^ b) (2 ^ suc a) ∙ ap (λ (x : ℕ). n * x) (sym (pow-add 2 b (suc a))))).1))
same_parts m n (negsuc a) (negsuc b) o p h =
    let r = odd_pow m n (suc b) (suc a) o p (ap (λ (x : ℕ). x * 2 ^ suc b) (sym (mul-one m)) ∙ h ∙ ap (λ (x : ℕ). x * 2 ^ suc a) (mul-one n)) in
    (r.0, ap negsuc (suc_inj (sym r.1)))

-- what `fits` says of a value above 0
pub record Representable (f : Format) (m : ℕ) (e : ℤ) : Type 0 where
  pub odd : m % 2 ≡ 1
  pub few : m < 2 ^ prec f
  pub deep : down e ≤ 2 ^ low f
  pub high : m * up e < 2 ^ suc (emax f) * down e

pub held : (f : Format) (s : Bool) (m : ℕ) (e : ℤ) → 0 < m → T (fits f (fin s m e)) → Representable f m e
unfolding fits
held f s zero e h t = absurd (lt_irrefl 0 h)
held f s (suc m) e h t =
    let a = eqb (suc m % 2) 1 in
    let b = ltb (suc m) (2 ^ prec f) in
    let c = leb (down e) (2 ^ low f) in
    let d = ltb (suc m * up e) (2 ^ suc (emax f) * down e) in
    record {
      odd = eqb→eq (suc m % 2) 1 (and_l a b (and_l (a && b) c (and_l (a && b && c) d t)));
      few = ltb→lt (suc m) (2 ^ prec f) (and_r a b (and_l (a && b) c (and_l (a && b && c) d t)));
      deep = leb→le (down e) (2 ^ low f) (and_r (a && b) c (and_l (a && b && c) d t));
      high = ltb→lt (suc m * up e) (2 ^ suc (emax f) * down e) (and_r (a && b && c) d t);
    }

-- two values that fit and are the same fraction are the same value
unique : (f : Format) (x y : Float) → T (fits f x) → T (fits f y) → T (positive x) → T (positive y) → num x * den y ≡ num y * den x → x ≡ y
unique f nan y F G p q h = absurd p
unique f (inf s) y F G p q h = absurd p
unique f (fin true m e) y F G p q h = absurd p
unique f (fin false m e) nan F G p q h = absurd q
unique f (fin false m e) (inf s) F G p q h = absurd q
unique f (fin false m e) (fin true n d) F G p q h = absurd q
unique f (fin false m e) (fin false n d) F G p q h =
    let a = held f false m e (ltb→lt 0 m p) F in
    let b = held f false n d (ltb→lt 0 n q) G in
    let r = same_parts m n e d a.odd b.odd h in
    λ i. fin false (r.0 i) (r.1 i)

-- `round` leaves a value of its format as it is
pow_le_back : (a l : ℕ) → 2 ^ a ≤ 2 ^ l → a ≤ l
pow_le_back a l h = le_of_suc-le-suc (lt_of_not-le (λ (g : suc l ≤ a). lt_irrefl (2 ^ l) (lt_of_lt_of_le (pow-lt g) h)))

-- m * 2 ^ e is m * 2 ^ j of the smallest values
place : (l : ℕ) (m : ℕ) (e : ℤ) → down e ≤ 2 ^ l → (j : ℕ) × (m * up e * 2 ^ l ≡ m * 2 ^ j * down e)
place l m (pos a) h = (a + l, mul_assoc m (2 ^ a) (2 ^ l) ∙ ap (λ (x : ℕ). m * x) (sym (pow-add 2 a l)) ∙ sym (mul-one (m * 2 ^ (a + l))))
place l m (negsuc a) h =
    let k : suc a ≤ l = pow_le_back (suc a) l h in
    (l - suc a, ap (λ (x : ℕ). x * 2 ^ l) (mul-one m) ∙ ap (λ (x : ℕ). m * x) (ap (λ (x : ℕ). 2 ^ x) (join a l k) ∙ pow-add 2 (l - suc a) (suc a)) ∙ sym (mul_assoc m (2 ^ (l - suc a)) (2 ^ suc a)))
  where
    join : (a l : ℕ) → suc a ≤ l → l ≡ l - suc a + suc a
    join a l h = omega arith

own-round : (f : Format) (m : ℕ) (e : ℤ) → Representable f m e → HasValue (round f false (m * up e) (down e)) false (m * up e) (down e)
own-round f m e h =
    let k = place (low f) m e h.deep in
    round_exact f false (m * up e) (down e) m k.0 (down_pos e) h.few
    (lt_of_mul-lt-mul_right (down e)
    (lt_of_lt_of_le (subst (λ (x : ℕ). x < 2 ^ suc (emax f) * down e * 2 ^ low f) k.1 (mul-lt-mul_of_pos_right h.high (pow_pos (low f))))
    (le_of_eq (mul_right_comm (2 ^ suc (emax f)) (down e) (2 ^ low f) ∙ ap (λ (x : ℕ). x * down e) (mul_comm (2 ^ suc (emax f)) (2 ^ low f) ∙ sym (pow-add 2 (low f) (suc (emax f))))))))
    k.1

round-own : (f : Format) (x : Float) → T (fits f x) → T (positive x) → round f false (num x) (den x) ≡ x
round-own f nan F p = absurd p
round-own f (inf s) F p = absurd p
round-own f (fin true m e) F p = absurd p
round-own f (fin false m e) F p =
    let x = fin false m e in
    let z = round f false (m * up e) (down e) in
    let v : HasValue z false (m * up e) (down e) = own-round f m e (held f false m e (ltb→lt 0 m p) F) in
    unique f z x (round-fits f false (m * up e) (down e)) F (positive_of_value z (m * up e) (down e) v (num_pos x p)) p (value→cross z (m * up e) (down e) v)

-- 1.0 times a value is the value
pub one-times : (x : Float) → T (fits binary64 x) → T (positive x) → mul binary64 one x ≡ x
one-times x F p =
    mul_at binary64 one x 1 1 (num x) (den x) tt p (zero-lt-suc 0) (den_pos x) (own_value one tt) (own_value x p)
    ∙ round_same binary64 false (1 * num x) (1 * den x) (num x) (den x) (mul-pos (zero-lt-suc 0) (den_pos x)) (den_pos x) (ap (λ (y : ℕ). y * den x) (one-mul (num x)) ∙ ap (λ (y : ℕ). num x * y) (sym (one-mul (den x))))
    ∙ round-own binary64 x F p
