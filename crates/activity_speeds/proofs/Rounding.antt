-- `half_up` and `round_away`: equal fractions round alike, and what a float's bit pattern says of its rounding.
use mathlib.Core.Path.{◌≡◌, refl, sym, ap, ◌∙◌, subst}
use Prim.Native.Nat.{ℕ, zero, suc, ◌+◌, ◌-◌, ◌*◌, ◌/◌, ◌%◌, ◌^◌, ◌≤◌, ◌<◌}
use native.Mathlib.Nat.{le_trans, le_of_eq, lt_of_lt_of_le, lt_of_not-le, not-le_of_lt, zero-lt-suc, mul-pos, mul_assoc, mul_right_comm, mul-le-mul_right, mul-le-mul, mul-lt-mul_of_pos_left, le_of_suc-le-suc, le_of_mul-le-mul_right, mod-lt, div-eq_of_lt, mul-div-mul_left, div-mul-le_self, lt-div-mul-add, pow-succ'}
use native.Mathlib.Omega.{arith}
use mathlib.Core.Bool.{Bool, true, false, not, cond}
use lib.Dec.{T, leb, eqb, lit<}
use lib.Pow.{pow-add, pow_pos, pow_mono, shl_lt}
use lib.Ieee.{Float, nan, inf, fin, Format, binary64, prec, low, up, down, odd, fits, is_nan, hid, ones, top, of_fields, of_bits, to_bits}
use lib.Ieee.Fits.{down_pos}
use lib.Ieee.Bits.{of_bits-to_bits}
use lib.Ieee.Exact.{HasValue, odd_sign}
use lib.Ieee.Nearest.{div_same}
use lib.Ieee.Scale.{finite}
use Rattle.activity_speeds.specs.Speeds.{half_up, round_away, UpTo}

-- `half_up a c` is the whole number r nearest to a / c, a tie upward: -1/2 < r - a / c ≤ 1/2
pub half-up-bounds : (a c : ℕ) → 0 < c → (2 * (half_up a c * c) ≤ 2 * a + c) × (2 * a < 2 * (half_up a c * c) + c)
unfolding half_up
half-up-bounds a c C = both ((2 * a + c) / (2 * c)) (div-mul-le_self (2 * a + c) (2 * c)) (lt-div-mul-add (mul-pos (zero-lt-suc 1) C))
  where
    both : (r : ℕ) → r * (2 * c) ≤ 2 * a + c → 2 * a + c < r * (2 * c) + 2 * c → (2 * (r * c) ≤ 2 * a + c) × (2 * a < 2 * (r * c) + c)
    both r h k = (omega arith, omega arith)

-- equal fractions round alike
cross : (a b c d : ℕ) → a * d ≡ c * b → (2 * a + b) * (2 * d) ≡ (2 * c + d) * (2 * b)
cross a b c d e = omega arith

pub half-up-same : (a b c d : ℕ) → 0 < b → 0 < d → a * d ≡ c * b → half_up a b ≡ half_up c d
unfolding half_up
half-up-same a b c d B D e = div_same (2 * a + b) (2 * b) (2 * c + d) (2 * d) (mul-pos (zero-lt-suc 1) B) (mul-pos (zero-lt-suc 1) D) (cross a b c d e)

-- by any fraction that x equals in size
pub away-of-value : (x : Float) (s : Bool) (a c : ℕ) → 0 < c → HasValue x s a c → round_away x ≡ half_up a c
unfolding round_away
away-of-value nan s a c C v = absurd v
away-of-value (inf t) s a c C v = absurd v
away-of-value (fin t m e) s a c C v = half-up-same (m * up e) (down e) a c (down_pos e) C v.1

-- three ways a fraction rounds: below a half to 0 ..
under-half : (a c : ℕ) → 2 * a < c → 2 * a + c < 2 * c
under-half a c h = omega arith

half-up-small : (a c : ℕ) → 2 * a < c → half_up a c ≡ 0
unfolding half_up
half-up-small a c h = div-eq_of_lt (under-half a c h)

-- .. a whole one to itself ..
pub half-up-whole : (w : ℕ) → half_up w 1 ≡ w
unfolding half_up
half-up-whole w = omega arith

-- .. and over 2 ^ suc k: add 2 ^ k, and cut
half_out : (w p q : ℕ) → q ≡ 2 * p → 2 * w + q ≡ 2 * (w + p)
half_out w p q e = omega arith

half-up-cut : (w k : ℕ) → half_up w (2 ^ suc k) ≡ (w + 2 ^ k) / 2 ^ suc k
unfolding half_up
half-up-cut w k = ap (λ (y : ℕ). y / (2 * 2 ^ suc k)) (half_out w (2 ^ k) (2 ^ suc k) (pow-succ' 2 k)) ∙ mul-div-mul_left (w + 2 ^ k) (2 ^ suc k) (zero-lt-suc 1)

-- what `UpTo` says
pub up-to-finite : (n : ℕ) (x : Float) → UpTo n x → T (finite x)
up-to-finite n nan u = absurd u.flat
up-to-finite n (inf s) u = absurd u.flat
up-to-finite n (fin s m e) u = tt

pub up-to-real : (n : ℕ) (x : Float) → UpTo n x → T (not (is_nan x))
unfolding is_nan
up-to-real n nan u = absurd u.flat
up-to-real n (inf s) u = absurd u.flat
up-to-real n (fin s m e) u = tt

up-to-value : (n : ℕ) (x : Float) (s : Bool) (a c : ℕ) → UpTo n x → HasValue x s a c → a ≤ n * c
up-to-value n nan s a c u v = absurd v
up-to-value n (inf t) s a c u v = absurd v
up-to-value n (fin t m e) s a c u v =
    le_of_mul-le-mul_right (le_trans (le_of_eq (sym v.1)) (le_trans (mul-le-mul_right c u.below) (le_of_eq (mul_right_comm n (down e) c)))) (down_pos e)

-- the value that the fields of a bit pattern stand for: the digits with the leading one, which a field of 0 does not have
abbrev pub lead : Format → ℕ → ℕ → ℕ
lead f zero t = t
lead f (suc x) t = hid f + t

pred-suc : (x : ℕ) → x ≡ suc x - 1
pred-suc x = omega arith

fields_value : (f : Format) (s : Bool) (x t : ℕ) → T (finite (of_fields f s x t)) → HasValue (of_fields f s x t) s (lead f x t * 2 ^ (x - 1)) (2 ^ low f)
unfolding of_fields
fields_value f s zero t h = odd_sign (prec f) s t 0 (low f)
fields_value f s (suc x) t h = go (eqb (suc x) (ones f)) (eqb t 0) h
  where
    go : (a b : Bool) → T (finite (cond a (cond b (inf s) nan) (odd (prec f) s (hid f + t) x (low f))))
        → HasValue (cond a (cond b (inf s) nan) (odd (prec f) s (hid f + t) x (low f))) s ((hid f + t) * 2 ^ (suc x - 1)) (2 ^ low f)
    go true true k = absurd k
    go true false k = absurd k
    go false b k = subst (λ (y : ℕ). HasValue (odd (prec f) s (hid f + t) x (low f)) s ((hid f + t) * 2 ^ y) (2 ^ low f)) (pred-suc x) (odd_sign (prec f) s (hid f + t) x (low f))

opened : (f : Format) (b : ℕ) → of_bits f b ≡ of_fields f (leb (top f) b) (b % top f / hid f) (b % hid f)
unfolding of_bits
opened f b = refl

bits-value : (f : Format) (x : Float) → T (fits f x) → T (finite x)
    → HasValue x (leb (top f) (to_bits f x)) (lead f (to_bits f x % top f / hid f) (to_bits f x % hid f) * 2 ^ (to_bits f x % top f / hid f - 1)) (2 ^ low f)
bits-value f x F h =
    let b = to_bits f x in
    let s = leb (top f) b in
    let g = b % top f / hid f in
    let t = b % hid f in
    let e : of_fields f s g t ≡ x = sym (opened f b) ∙ of_bits-to_bits f x F in
    subst (λ (v : Float). HasValue v s (lead f g t * 2 ^ (g - 1)) (2 ^ low f)) e (fields_value f s g t (subst (λ (v : Float). T (finite v)) (sym e) h))

-- at an `f64`, by the fields of its pattern
abbrev pub field : Float → ℕ
field x = to_bits binary64 x % 9223372036854775808 / 4503599627370496

abbrev pub digits : Float → ℕ
digits x = to_bits binary64 x % 4503599627370496

pub digits_lt : (x : Float) → digits x < 4503599627370496
digits_lt x = mod-lt (to_bits binary64 x) (pow_pos 52)

lead-lt : (g t : ℕ) → t < 4503599627370496 → lead binary64 g t < 9007199254740992
lead-lt zero t h = omega arith
lead-lt (suc g) t h = omega arith

lead-suc : (g t : ℕ) → 0 < g → lead binary64 g t ≡ 4503599627370496 + t
lead-suc zero t h = omega arith
lead-suc (suc g) t h = refl

field-value : (x : Float) → T (fits binary64 x) → T (finite x) → HasValue x (leb (top binary64) (to_bits binary64 x)) (lead binary64 (field x) (digits x) * 2 ^ (field x - 1)) (2 ^ 1074)
field-value x F h = bits-value binary64 x F h

small-exp : (g : ℕ) → g < 1022 → 53 + (g - 1) ≤ 1073
small-exp g h = omega arith

pub away-small : (x : Float) → T (fits binary64 x) → T (finite x) → field x < 1022 → round_away x ≡ 0
away-small x F h k =
    let g = field x in
    let w = lead binary64 g (digits x) in
    let l : w * 2 ^ (g - 1) < 2 ^ 1073 = lt_of_lt_of_le (shl_lt 53 (g - 1) (lead-lt g (digits x) (digits_lt x))) (pow_mono (small-exp g k)) in
    away-of-value x (leb (top binary64) (to_bits binary64 x)) (w * 2 ^ (g - 1)) (2 ^ 1074) (pow_pos 1074) (field-value x F h)
    ∙ half-up-small (w * 2 ^ (g - 1)) (2 ^ 1074) (mul-lt-mul_of_pos_left l (zero-lt-suc 1))

large-exp : (g : ℕ) → 1076 ≤ g → 1075 ≤ g - 1
large-exp g h = omega arith

large-pos : (g : ℕ) → 1076 ≤ g → 0 < g
large-pos g h = omega arith

lead-ge : (t : ℕ) → 4503599627370496 ≤ 4503599627370496 + t
lead-ge t = omega arith

pub field-le : (x : Float) → T (fits binary64 x) → UpTo (2 ^ 52) x → field x ≤ 1075
field-le x F h = le_of_suc-le-suc (lt_of_not-le (λ (k : 1076 ≤ field x).
    let g = field x in
    let w = lead binary64 g (digits x) in
    let u : w * 2 ^ (g - 1) ≤ 2 ^ 52 * 2 ^ 1074 = up-to-value (2 ^ 52) x (leb (top binary64) (to_bits binary64 x)) (w * 2 ^ (g - 1)) (2 ^ 1074) h (field-value x F (up-to-finite (2 ^ 52) x h)) in
    let w-ge : 4503599627370496 ≤ w = le_trans (lead-ge (digits x)) (le_of_eq (sym (lead-suc g (digits x) (large-pos g k)))) in
    let l : 4503599627370496 * 2 ^ 1075 ≤ w * 2 ^ (g - 1) = mul-le-mul w-ge (pow_mono (large-exp g k)) in
    not-le_of_lt (lit< tt) (le_trans l u)))

join : (g : ℕ) → 1022 ≤ g → g ≤ 1075 → g - 1 + (1075 - g) ≡ 1074
join g h k = omega arith

mid-pos : (g : ℕ) → 1022 ≤ g → 0 < g
mid-pos g h = omega arith

pub away-mid : (x : Float) → T (fits binary64 x) → T (finite x) → 1022 ≤ field x → field x ≤ 1075 → round_away x ≡ half_up (4503599627370496 + digits x) (2 ^ (1075 - field x))
away-mid x F h k l =
    let g = field x in
    let w = lead binary64 g (digits x) in
    away-of-value x (leb (top binary64) (to_bits binary64 x)) (w * 2 ^ (g - 1)) (2 ^ 1074) (pow_pos 1074) (field-value x F h)
    ∙ half-up-same (w * 2 ^ (g - 1)) (2 ^ 1074) w (2 ^ (1075 - g)) (pow_pos 1074) (pow_pos (1075 - g))
    (mul_assoc w (2 ^ (g - 1)) (2 ^ (1075 - g)) ∙ ap (λ (y : ℕ). w * y) (sym (pow-add 2 (g - 1) (1075 - g)) ∙ ap (λ (y : ℕ). 2 ^ y) (join g k l)))
    ∙ ap (λ (y : ℕ). half_up y (2 ^ (1075 - g))) (lead-suc g (digits x) (mid-pos g k))

-- the two ends of the code
pub end_whole : (w d : ℕ) → d ≡ 0 → w ≡ half_up w (2 ^ d)
end_whole w d e = sym (half-up-whole w) ∙ ap (λ (y : ℕ). half_up w (2 ^ y)) (sym e)

next : (d : ℕ) → 0 < d → suc (d - 1) ≡ d
next d h = omega arith

pub end-cut : (w d : ℕ) → 0 < d → (w + 2 ^ (d - 1)) / 2 ^ d ≡ half_up w (2 ^ d)
end-cut w d h = sym (subst (λ (y : ℕ). half_up w (2 ^ y) ≡ (w + 2 ^ (d - 1)) / 2 ^ y) (next d h) (half-up-cut w (d - 1)))

pub shift-lt : (d : ℕ) → d ≤ 53 → 2 ^ (d - 1) ≤ 4503599627370496
shift-lt d h = pow_mono (lower d h)
  where
    lower : (d : ℕ) → d ≤ 53 → d - 1 ≤ 52
    lower d h = omega arith

pub shift_is : (d : ℕ) → d ≤ 53 → (1 * 2 ^ (d - 1)) % 18446744073709551616 ≡ 2 ^ (d - 1)
shift_is d h = small (2 ^ (d - 1)) (shift-lt d h)
  where
    small : (p : ℕ) → p ≤ 4503599627370496 → (1 * p) % 18446744073709551616 ≡ p
    small p h = omega arith
