-- Where a rounded quotient and a rounded product lie: rounding keeps the order, and leaves whole numbers up to 2 ^ 53 and powers of two as they are.
use mathlib.Core.Path.{◌≡◌, refl, sym, ap, ◌∙◌, subst}
use Prim.Native.Nat.{ℕ, zero, suc, ◌+◌, ◌-◌, ◌*◌, ◌^◌, ◌≤◌, ◌<◌}
use native.Mathlib.Nat.{le_of_lt, le_trans, le_of_eq, lt_of_lt_of_le, lt_irrefl, zero-lt-suc, mul-pos, mul-one, one-mul, zero-mul, mul_assoc, mul_comm, mul_left_comm, mul_right_comm, mul-mul-mul_comm, mul-le-mul_right, mul-le-mul_left, mul-le-mul, le_of_mul-le-mul_right, one-le-pow, pow-suc, pow-le-pow_right, lt_of_le_of_lt, le_of_mul-le-mul_left}
use native.Mathlib.Omega.{arith}
use mathlib.Core.Bool.{Bool, true, false, not, ◌&&◌, ◌||◌, cond, true≢false}
use lib.IntN.{pos}
use lib.Dec.{T, ltb, eqb, le→leb, ltb→lt, lt→ltb, eqb→eq, lit≤, lit<}
use lib.Pow.{pow-add, pow-lt}
use lib.Ieee.{Float, nan, inf, fin, Format, binary64, prec, low, emax, up, down, odd, units, round, le, mul, div, of_int, in_float}
use lib.Ieee.Fits.{up_pos, down_pos, and_l, and_r, round_is}
use lib.Ieee.Bits.{cond_no}
use lib.Ieee.Back.{round_whole}
use lib.Ieee.Exact.{HasValue, round_exact}
use lib.Ieee.Order.{round_mono, drop, kept}
use lib.Ieee.Positive.{num, den, positive, den_pos, own_value, value→cross, le→cross, between, mul_at}
use lib.Ieee.Scale.{round_same}
use Rattle.activity_speeds.specs.Speeds.{plain, UpTo, WithinPower, is_speed, one, quarter, four}

-- a value a / c carries no sign
plain-of-value : (x : Float) (a c : ℕ) → HasValue x false a c → T (plain x)
plain-of-value nan a c v = absurd v
plain-of-value (inf t) a c v = absurd v
plain-of-value (fin true m e) a c v = absurd (true≢false v.0)
plain-of-value (fin false m e) a c v = tt

-- the order of two such values is that of their fractions
le-of-test : (a b : ℕ) → T (ltb a b || (eqb a b && true)) → a ≤ b
le-of-test a b h = go (ltb a b) (eqb a b) (ltb→lt a b) (eqb→eq a b) h
  where
    go : (x y : Bool) → (T x → a < b) → (T y → a ≡ b) → T (x || (y && true)) → a ≤ b
    go true y p q h = le_of_lt (p tt)
    go false true p q h = le_of_eq (q tt)
    go false false p q h = absurd h

le-cross : (x y : Float) → T (plain x) → T (plain y) → T (le x y) → num x * den y ≤ num y * den x
unfolding le
le-cross nan y p q h = absurd p
le-cross (inf s) y p q h = absurd p
le-cross (fin true m e) y p q h = absurd p
le-cross (fin false m e) nan p q h = absurd q
le-cross (fin false m e) (inf t) p q h = absurd q
le-cross (fin false m e) (fin true n d) p q h = absurd q
le-cross (fin false m e) (fin false n d) p q h = le-of-test (m * up e * down d) (n * up d * down e) h

-- `round` with no sign is an infinity, or finite with no sign
abbrev unsigned : Float → Bool
unsigned nan = false
unsigned (inf s) = not s
unsigned (fin s m e) = not s

units-unsigned : (f : Format) (q k : ℕ) → T (unsigned (units f false q k))
unfolding units odd
units-unsigned f q k = go (ltb (q * 2 ^ k) (2 ^ (low f + suc (emax f)))) q
  where
    go : (b : Bool) (q : ℕ) → T (unsigned (cond b (odd (suc (prec f)) false q k (low f)) (inf false)))
    go true zero = tt
    go true (suc q) = tt
    go false q = tt

round-unsigned : (f : Format) (a c : ℕ) → T (unsigned (round f false a c))
round-unsigned f a c = subst (λ (z : Float). T (unsigned z)) (sym (round_is f false a c)) (units-unsigned f (kept (prec f) (a * 2 ^ low f) c) (drop (prec f) (a * 2 ^ low f) c))

plain-under : (z y : Float) → T (unsigned z) → T (plain y) → T (le z y) → T (plain z)
unfolding le
plain-under nan y u p h = absurd u
plain-under (inf true) y u p h = absurd u
plain-under (inf false) nan u p h = absurd p
plain-under (inf false) (inf t) u p h = absurd p
plain-under (inf false) (fin t n d) u p h = absurd h
plain-under (fin s m e) y u p h = u

-- a fraction that is a whole number N at most rounds to N at most: num z / den z ≤ num y / den y = N / 1
bring : (a b c d N : ℕ) → 0 < d → c * 1 ≡ N * d → a * d ≤ c * b → a ≤ N * b
bring a b c d N D e h = le_of_mul-le-mul_right (le_trans h (le_of_eq (ap (λ (y : ℕ). y * b) (sym (mul-one c) ∙ e) ∙ mul_right_comm N d b))) D

round-up-to : (f : Format) (a c N : ℕ) → 0 < c → N ≤ 2 ^ prec f → a ≤ N * c → UpTo N (round f false a c)
round-up-to f a c N C small h =
    let z = round f false a c in
    let y = round f false N 1 in
    let v : HasValue y false N 1 = round_whole f false N small in
    let l : T (le z y) = round_mono f a c N 1 C (zero-lt-suc 0) (le_trans (le_of_eq (mul-one a)) h) in
    let p : T (plain z) = plain-under z y (round-unsigned f a c) (plain-of-value y N 1 v) l in
    record { flat = p; below = bring (num z) (den z) (num y) (den y) N (den_pos y) (value→cross y N 1 v) (le-cross z y p (plain-of-value y N 1 v) l) }

-- an integer as an `f64`
pub whole-value : (f : Format) (n : ℕ) → n ≤ 2 ^ prec f → HasValue (of_int f (pos n)) false n 1
unfolding of_int
whole-value f n h = round_whole f false n h

pub in-float : (n : ℕ) → n ≤ 2 ^ 53 → T (in_float binary64 (pos n))
unfolding in_float
in-float n h = le→leb n (2 ^ 53) h

-- the quotient of a value a / c and a positive one
pos→neqb : (n : ℕ) → 0 < n → T (not (eqb n 0))
pos→neqb n h = go (eqb n 0) (eqb→eq n 0)
  where
    no : (n : ℕ) → 0 < n → n ≡ 0 → ⊥
    no n h e = omega arith

    go : (b : Bool) → (T b → n ≡ 0) → T (not b)
    go true k = absurd (no n h (k tt))
    go false k = tt

pub div-at : (f : Format) (x y : Float) (a c : ℕ) → 0 < c → HasValue x false a c → T (positive y) → div f x y ≡ round f false (a * den y) (num y * c)
unfolding div
div-at f nan y a c C v q = absurd v
div-at f (inf s) y a c C v q = absurd v
div-at f (fin true m e) y a c C v q = absurd (true≢false v.0)
div-at f (fin false m e) nan a c C v q = absurd q
div-at f (fin false m e) (inf t) a c C v q = absurd q
div-at f (fin false m e) (fin true n d) a c C v q = absurd q
div-at f (fin false m e) (fin false n d) a c C v q =
    cond_no (eqb n 0) (cond (eqb m 0) nan (inf false)) (round f false (m * up e * down d) (n * up d * down e)) (pos→neqb n (ltb→lt 0 n q))
    ∙ round_same f false (m * up e * down d) (n * up d * down e) (a * down d) (n * up d * c)
    (mul-pos (mul-pos (ltb→lt 0 n q) (up_pos d)) (down_pos e)) (mul-pos (mul-pos (ltb→lt 0 n q) (up_pos d)) C)
    (turn (m * up e) (down d) (n * up d) c a (down e) v.1)
  where
    turn : (x p y c a q : ℕ) → x * c ≡ a * q → x * p * (y * c) ≡ a * p * (y * q)
    turn x p y c a q e = simp (mul_assoc, mul_comm, mul_left_comm) (simp (mul_assoc, mul_comm, mul_left_comm) at (ap (λ (z : ℕ). z * (p * y)) e))

-- such a value is above 0
above_zero : (m u d p : ℕ) → 0 < d → d ≤ m * u * p → 0 < m
above_zero zero u d p D h = absurd (lt_irrefl 0 (lt_of_lt_of_le D (le_trans h (le_of_eq (ap (λ (y : ℕ). y * p) (zero-mul u) ∙ zero-mul p)))))
above_zero (suc m) u d p D h = zero-lt-suc m

pub within-positive : (k : ℕ) (x : Float) → WithinPower k x → T (positive x)
within-positive k nan w = absurd w.flat
within-positive k (inf s) w = absurd w.flat
within-positive k (fin true m e) w = absurd w.flat
within-positive k (fin false m e) w = lt→ltb 0 m (above_zero m (up e) (down e) (4 ^ k) (down_pos e) w.above)

pub num_pos : (x : Float) → T (positive x) → 0 < num x
num_pos nan p = absurd p
num_pos (inf s) p = absurd p
num_pos (fin true m e) p = absurd p
num_pos (fin false m e) p = mul-pos (ltb→lt 0 m p) (up_pos e)

four-pos : (k : ℕ) → 0 < 4 ^ k
four-pos k = one-le-pow k 4 (zero-lt-suc 3)

-- the quotient of a whole number B at most by a value from 4 ^ -k
pub div-up-to : (base B k : ℕ) (y : Float) → base ≤ B → B * 4 ^ k ≤ 2 ^ 53 → WithinPower k y → UpTo (B * 4 ^ k) (div binary64 (of_int binary64 (pos base)) y)
div-up-to base B k y h small w =
    let P : T (positive y) = within-positive k y w in
    let b53 : base ≤ 2 ^ 53 = le_trans (le_trans h (grow B (4 ^ k) (four-pos k))) small in
    subst (λ (z : Float). UpTo (B * 4 ^ k) z) (sym (div-at binary64 (of_int binary64 (pos base)) y base 1 (zero-lt-suc 0) (whole-value binary64 base b53) P))
    (round-up-to binary64 (base * den y) (num y * 1) (B * 4 ^ k) (mul-pos (num_pos y P) (zero-lt-suc 0)) small
    (le_trans (mul-le-mul h w.above) (le_of_eq (simp (mul-one, mul_assoc, mul_comm)))))
  where
    grow : (B p : ℕ) → 0 < p → B ≤ B * p
    grow B p h = le_trans (le_of_eq (sym (mul-one B))) (mul-le-mul_left B h)

-- a product
four_is : (k : ℕ) → 4 ^ k ≡ 2 ^ (2 * k)
four_is zero = refl
four_is (suc k) = pow-suc 4 k ∙ ap (λ (y : ℕ). y * 4) (four_is k) ∙ sym (pow-add 2 (2 * k) 2) ∙ ap (λ (y : ℕ). 2 ^ y) (more k)
  where
    more : (k : ℕ) → 2 * k + 2 ≡ 2 * suc k
    more k = omega arith

four-le : (k : ℕ) → k ≤ 26 → 4 ^ k ≤ 2 ^ 53
four-le k h = le_trans (pow-le-pow_right (zero-lt-suc 3) h) (lit≤ tt)

-- 4 ^ -k is an `f64`
low_value : (k : ℕ) → k ≤ 26 → HasValue (round binary64 false 1 (4 ^ k)) false 1 (4 ^ k)
low_value k h =
    round_exact binary64 false 1 (4 ^ k) 1 (1074 - 2 * k) (four-pos k) (lit< tt)
    (lt_of_le_of_lt (le_of_eq (one-mul (2 ^ (1074 - 2 * k)))) (pow-lt (under k)))
    (one-mul (2 ^ 1074) ∙ sym (ap (λ (y : ℕ). 1 * 2 ^ (1074 - 2 * k) * y) (four_is k) ∙ ap (λ (y : ℕ). y * 2 ^ (2 * k)) (one-mul (2 ^ (1074 - 2 * k))) ∙ sym (pow-add 2 (1074 - 2 * k) (2 * k)) ∙ ap (λ (y : ℕ). 2 ^ y) (join k h)))
  where
    under : (k : ℕ) → 1074 - 2 * k < 2098
    under k = omega arith

    join : (k : ℕ) → k ≤ 26 → 1074 - 2 * k + 2 * k ≡ 1074
    join k h = omega arith

lift : (n d a b p : ℕ) → 0 < d → n * p ≡ 1 * d → n * b ≤ a * d → b ≤ a * p
lift zero d a b p D e h = absurd (lt_irrefl 0 (lt_of_lt_of_le D (le_of_eq (sym (one-mul d) ∙ sym e ∙ zero-mul p))))
lift (suc n) d a b p D e h =
    le_of_mul-le-mul_left (le_trans h (le_of_eq (ap (λ (y : ℕ). a * y) (sym (one-mul d) ∙ sym e) ∙ mul_left_comm a (suc n) p))) (zero-lt-suc n)

pub within-mul : (k j : ℕ) (x y : Float) → k + j ≤ 26 → WithinPower k x → WithinPower j y → WithinPower (k + j) (mul binary64 x y)
within-mul k j x y K v w =
    let p : T (positive x) = within-positive k x v in
    let q : T (positive y) = within-positive j y w in
    let a = num x * num y in
    let c = den x * den y in
    let C : 0 < c = mul-pos (den_pos x) (den_pos y) in
    let z = round binary64 false a c in
    let N = 4 ^ (k + j) in
    let o = round binary64 false 1 N in
    let is : mul binary64 x y ≡ z = mul_at binary64 x y (num x) (den x) (num y) (den y) p q (den_pos x) (den_pos y) (own_value x p) (own_value y q) in
    let hi : a ≤ N * c = le_trans (mul-le-mul v.below w.below) (le_of_eq (mul-mul-mul_comm (4 ^ k) (den x) (4 ^ j) (den y) ∙ ap (λ (u : ℕ). u * c) (sym (pow-add 4 k j)))) in
    let lo : c ≤ a * N = le_trans (mul-le-mul v.above w.above) (le_of_eq (mul-mul-mul_comm (num x) (4 ^ k) (num y) (4 ^ j) ∙ ap (λ (u : ℕ). a * u) (sym (pow-add 4 k j)))) in
    let u : UpTo N z = round-up-to binary64 a c N C (four-le (k + j) K) hi in
    let g : HasValue o false 1 N = low_value (k + j) K in
    let l : T (le o z) = round_mono binary64 1 N a c (four-pos (k + j)) C (le_trans (le_of_eq (one-mul c)) lo) in
    subst (λ (m : Float). WithinPower (k + j) m) (sym is)
    (record {
      flat = u.flat;
      above = lift (num o) (den o) (num z) (den z) N (den_pos o) (value→cross o 1 N g) (le-cross o z (plain-of-value o 1 N g) u.flat l);
      below = u.below;
    })

-- a speed, and 1.0
pub within_more : (k j : ℕ) (x : Float) → k ≤ j → WithinPower k x → WithinPower j x
within_more k j x h w = record {
  flat = w.flat;
  above = le_trans w.above (mul-le-mul_left (num x) (pow-le-pow_right (zero-lt-suc 3) h));
  below = le_trans w.below (mul-le-mul_right (den x) (pow-le-pow_right (zero-lt-suc 3) h));
}

pub positive-plain : (x : Float) → T (positive x) → T (plain x)
positive-plain nan p = absurd p
positive-plain (inf s) p = absurd p
positive-plain (fin true m e) p = absurd p
positive-plain (fin false m e) p = tt

pub speed-within : (x : Float) → T (is_speed x) → WithinPower 1 x
unfolding is_speed
speed-within x h =
    let lo : T (le quarter x) = and_l (le quarter x) (le x four) h in
    let hi : T (le x four) = and_r (le quarter x) (le x four) h in
    let p : T (positive x) = between quarter x four tt tt lo hi in
    let a : 1 * den x ≤ num x * 4 = le→cross quarter x tt p lo in
    let b : num x * 1 ≤ 4 * den x = le→cross x four p tt hi in
    record { flat = positive-plain x p; above = le_trans (le_of_eq (sym (one-mul (den x)))) a; below = le_trans (le_of_eq (sym (mul-one (num x)))) b }

pub one-within : WithinPower 0 one
one-within = record { flat = tt; above = lit≤ tt; below = lit≤ tt }
