-- How far a rounded quotient is from the quotient, and with it the law of 0.501 (`Near`).
use mathlib.Core.Path.{◌≡◌, refl, sym, ap, ◌∙◌, subst}
use Prim.Native.Nat.{ℕ, zero, suc, ◌+◌, ◌-◌, ◌*◌, ◌/◌, ◌%◌, ◌^◌, ◌≤◌, ◌<◌, compare, Ordering}
use native.Mathlib.Nat.{le_trans, le_of_lt, le_of_eq, lt_of_lt_of_le, lt_of_not-le, lt_irrefl, zero-lt-suc, mul-pos, mul-one, one-mul, mul_assoc, mul_comm, mul_right_comm, mul-le-mul_right, mul-le-mul_left, mul-le-mul, mul-lt-mul_of_pos_right, le_of_mul-le-mul_right, mod-lt, div-add-mod', div-lt_iff_lt-mul, mul-div_cancel, div-one, le_of_suc-le-suc}
use native.Mathlib.Omega.{arith}
use mathlib.Core.Bool.{Bool, true, false, not, ◌||◌, cond}
use lib.IntN.{pos, negsuc}
use lib.Dec.{T, is_le, compare_is_eq, eqb, leb→le, nleb→lt, eqb→eq, eqb_refl, lit≤}
use lib.Arith.{lt_of_le-ne}
use lib.Pow.{pow-add, pow_pos, pow_mono}
use lib.Ieee.{Float, nan, inf, fin, Format, binary64, prec, low, up, down, size, nearest, round, eq, div, of_int, fits}
use lib.Ieee.Digits.{size-le}
use lib.Ieee.Fits.{down_pos, and_l}
use lib.Ieee.Exact.{HasValue}
use lib.Ieee.Nearest.{closest}
use lib.Ieee.Order.{drop, kept}
use lib.Ieee.Positive.{num, den, positive, den_pos}
use lib.Ieee.Scale.{grid, finite, round_val, round_under}
use Rattle.activity_speeds.specs.Speeds.{plain, UpTo, WithinPower, half_up, round_away, is_speed, one, process_at, scaled, Near}
use Rattle.activity_speeds.proofs.Rounding.{half-up-bounds, away-of-value, up-to-finite}
use Rattle.activity_speeds.proofs.Identity.{held}
use Rattle.activity_speeds.proofs.Bounds.{within-positive, speed-within, num_pos, div-at, div-up-to, whole-value}

-- g is within u / 2 of n
pub record Close (g n u : ℕ) : Type 0 where
  pub over : 2 * g ≤ 2 * n + u
  pub short : 2 * n ≤ 2 * g + u

-- what `compare` says (`lib.Ieee.Nearest` keeps its own to itself)
abbrev Cmp : Ordering → ℕ → ℕ → Type 0
Cmp Ordering.lt a b = a < b
Cmp Ordering.eq a b = a ≡ b
Cmp Ordering.gt a b = b < a

cmp : (a b : ℕ) → Cmp (compare a b) a b
cmp a b = go (compare a b) (leb→le a b) (nleb→lt a b) (eqb→eq a b) (λ (e : a ≡ b). subst (λ (x : ℕ). T (eqb a x)) e (eqb_refl a))
  where
    go : (o : Ordering) → (T (is_le o) → a ≤ b) → (T (not (is_le o)) → b < a) → (T (compare_is_eq o) → a ≡ b) → (a ≡ b → T (compare_is_eq o)) → Cmp o a b
    go Ordering.lt h k e n = lt_of_le-ne (h tt) n
    go Ordering.eq h k e n = e tt
    go Ordering.gt h k e n = k tt

tie : (q p r u n : ℕ) → r * 2 ≡ u → p < 2 → n ≡ q * u + r → Close ((q + p) * u) n u
tie q zero r u n x h e = record { over = omega arith; short = omega arith }
tie q (suc zero) r u n x h e = record { over = omega arith; short = omega arith }
tie q (suc (suc p)) r u n x h e = record { over = omega arith; short = omega arith }

nearest-close : (q r u n : ℕ) (o : Ordering) → Cmp o (r * 2) u → r < u → n ≡ q * u + r → Close (nearest q o * u) n u
nearest-close q r u n Ordering.lt x h e = record { over = omega arith; short = omega arith }
nearest-close q r u n Ordering.eq x h e = tie q (q % 2) r u n x (mod-lt q (zero-lt-suc 1)) e
nearest-close q r u n Ordering.gt x h e = record { over = omega arith; short = omega arith }

closest-close : (n u : ℕ) → 0 < u → Close (closest n u * u) n u
closest-close n u U = nearest-close (n / u) (n % u) u n (compare (n % u * 2) u) (cmp (n % u * 2) u) (mod-lt n U) (sym (div-add-mod' n u))

-- `round`: the result in units of the format's smallest value, times c, is within half of c * 2 ^ drop of the numerator in those units
grid-close : (f : Format) (a c : ℕ) → 0 < c → Close (grid f a c * c) (a * 2 ^ low f) (c * 2 ^ drop (prec f) (a * 2 ^ low f) c)
grid-close f a c C =
    let n = a * 2 ^ low f in
    let k = drop (prec f) n c in
    subst (λ (g : ℕ). Close g n (c * 2 ^ k)) (sym (mul_assoc (kept (prec f) n c) (2 ^ k) c ∙ ap (λ (y : ℕ). kept (prec f) n c * y) (mul_comm (2 ^ k) c))) (closest-close n (c * 2 ^ k) (mul-pos C (pow_pos k)))

-- a fraction below 2 ^ j drops few digits
drop_le : (f : Format) (a c j : ℕ) → 0 < c → a < 2 ^ j * c → drop (prec f) (a * 2 ^ low f) c ≤ j + low f - prec f
drop_le f a c j C h = less (size (a * 2 ^ low f / c)) (j + low f) (prec f) (size-le (a * 2 ^ low f / c) (j + low f) ((div-lt_iff_lt-mul C).1
    (lt_of_lt_of_le (mul-lt-mul_of_pos_right h (pow_pos (low f))) (le_of_eq (mul_right_comm (2 ^ j) c (2 ^ low f) ∙ ap (λ (y : ℕ). y * c) (sym (pow-add 2 j (low f))))))))
  where
    less : (z y p : ℕ) → z ≤ y → z - p ≤ y - p
    less z y p h = omega arith

-- `half_up` is within a half
half-up-close : (g D : ℕ) → 0 < D → Close (half_up g D * D) g D
half-up-close g D P =
    let b = half-up-bounds g D P in
    record { over = b.0; short = le_of_lt b.1 }

-- both roundings together: r * c is within 0.501 * c of a
pub record Off (r c a : ℕ) : Type 0 where
  pub over : 1000 * (r * c) ≤ 1000 * a + 501 * c
  pub short : 1000 * a ≤ 1000 * (r * c) + 501 * c

last-over : (x a c : ℕ) → 32768 * x ≤ 32768 * a + 16385 * c → 1000 * x ≤ 1000 * a + 501 * c
last-over x a c h = omega arith

both-off : (r g a c D E p : ℕ) → 0 < E → D ≡ 16384 * E → p ≤ E → Close (r * D) g D → Close (g * c) (a * D) (c * p) → Off r c a
both-off r g a c D E p P e h u v =
    let q : c * p ≤ c * E = mul-le-mul_left c h in
    let x : 2 * (r * D) * c ≤ (2 * g + D) * c = mul-le-mul_right c u.over in
    let y : 2 * g * c ≤ (2 * (r * D) + D) * c = mul-le-mul_right c u.short in
    let d : D * c ≡ 16384 * E * c = ap (λ (z : ℕ). z * c) e in
    let dr : r * D * c ≡ r * (16384 * E) * c = ap (λ (z : ℕ). r * z * c) e in
    let da : a * D ≡ a * (16384 * E) = ap (λ (z : ℕ). a * z) e in
    record {
      over = last-over (r * c) a c (le_of_mul-le-mul_right (over r g a c D E p q x v.over d dr da) P);
      short = last-short (r * c) a c (le_of_mul-le-mul_right (short r g a c D E p q y v.short d dr da) P);
    }
  where
    last-short : (x a c : ℕ) → 32768 * a ≤ 32768 * x + 16385 * c → 1000 * a ≤ 1000 * x + 501 * c
    last-short x a c h = omega arith

    over : (r g a c D E p : ℕ) → c * p ≤ c * E → 2 * (r * D) * c ≤ (2 * g + D) * c → 2 * (g * c) ≤ 2 * (a * D) + c * p
        → D * c ≡ 16384 * E * c → r * D * c ≡ r * (16384 * E) * c → a * D ≡ a * (16384 * E) → 32768 * (r * c) * E ≤ (32768 * a + 16385 * c) * E
    over r g a c D E p q x v d dr da = omega arith

    short : (r g a c D E p : ℕ) → c * p ≤ c * E → 2 * g * c ≤ (2 * (r * D) + D) * c → 2 * (a * D) ≤ 2 * (g * c) + c * p
        → D * c ≡ 16384 * E * c → r * D * c ≡ r * (16384 * E) * c → a * D ≡ a * (16384 * E) → 32768 * a * E ≤ (32768 * (r * c) + 16385 * c) * E
    short r g a c D E p q x v d dr da = omega arith

-- a quotient a / c up to 2 ^ 38, rounded to an `f64` and then to a whole number
twice : (a c : ℕ) → 0 < c → a ≤ 2 ^ 38 * c → a < 2 ^ 39 * c
twice a c C h = omega arith

round-off : (a c : ℕ) → 0 < c → a ≤ 2 ^ 38 * c → T (finite (round binary64 false a c)) → Off (round_away (round binary64 false a c)) c a
round-off a c C h k =
    let z = round binary64 false a c in
    let g = grid binary64 a c in
    let p = drop 53 (a * 2 ^ 1074) c in
    let v : HasValue z false g (2 ^ 1074) = round_val binary64 a c (round_under binary64 a c k) in
    let is : round_away z ≡ half_up g (2 ^ 1074) = away-of-value z false g (2 ^ 1074) (pow_pos 1074) v in
    subst (λ (r : ℕ). Off r c a) (sym is)
    (both-off (half_up g (2 ^ 1074)) g a c (2 ^ 1074) (2 ^ 1060) (2 ^ p) (pow_pos 1060) refl
    (pow_mono (drop_le binary64 a c 39 C (twice a c C h)))
    (half-up-close g (2 ^ 1074) (pow_pos 1074))
    (grid-close binary64 a c C))

-- the speed times 2 ^ 54 is whole
pow_lt_back : (i p : ℕ) → 2 ^ i < 2 ^ p → i < p
pow_lt_back i p h = lt_of_not-le (λ (g : p ≤ i). lt_irrefl (2 ^ i) (lt_of_lt_of_le h (pow_mono g)))

exact-at : (m k : ℕ) → suc k ≤ 54 → m * 1 * 2 ^ 54 / 2 ^ suc k * 2 ^ suc k ≡ m * 1 * 2 ^ 54
exact-at m k h =
    let e : m * 1 * 2 ^ 54 ≡ m * 1 * 2 ^ (54 - suc k) * 2 ^ suc k =
    ap (λ (y : ℕ). m * 1 * 2 ^ y) (join k h) ∙ ap (λ (y : ℕ). m * 1 * y) (pow-add 2 (54 - suc k) (suc k)) ∙ sym (mul_assoc (m * 1) (2 ^ (54 - suc k)) (2 ^ suc k)) in
    ap (λ (y : ℕ). y / 2 ^ suc k * 2 ^ suc k) e ∙ ap (λ (y : ℕ). y * 2 ^ suc k) (mul-div_cancel (m * 1 * 2 ^ (54 - suc k)) (pow_pos (suc k))) ∙ sym e
  where
    join : (k : ℕ) → suc k ≤ 54 → 54 ≡ 54 - suc k + suc k
    join k h = omega arith

small-exp : (m p : ℕ) → m < 2 ^ 53 → p ≤ m * 1 * 4 → p < 2 ^ 55
small-exp m p h k = omega arith

scaled_exact : (s : Float) → T (fits binary64 s) → WithinPower 1 s → scaled s * den s ≡ num s * 2 ^ 54
unfolding scaled
scaled_exact nan F w = absurd w.flat
scaled_exact (inf t) F w = absurd w.flat
scaled_exact (fin t m (pos k)) F w = mul-one (m * 2 ^ k * 2 ^ 54 / 1) ∙ div-one (m * 2 ^ k * 2 ^ 54)
scaled_exact (fin t zero (negsuc k)) F w = absurd (lt_irrefl 0 (lt_of_lt_of_le (pow_pos (suc k)) w.above))
scaled_exact (fin t (suc m) (negsuc k)) F w =
    exact-at (suc m) k (le_of_suc-le-suc (pow_lt_back (suc k) 55 (small-exp (suc m) (2 ^ suc k) (held binary64 t (suc m) (negsuc k) (zero-lt-suc m) F).few w.above)))

-- the law
pub eq-one : (s : Float) → T (plain s) → T (eq s one) → num s ≡ den s
unfolding eq
eq-one nan p h = absurd p
eq-one (inf t) p h = absurd p
eq-one (fin true m e) p h = absurd p
eq-one (fin false m e) p h =
    sym (mul-one (m * up e)) ∙ eqb→eq (m * up e * 1) (1 * down e) (and_l (eqb (m * up e * 1) (1 * down e)) (true || eqb (m * up e * 1) 0) h) ∙ one-mul (down e)

has_value : (s : Float) → T (plain s) → (S : ℕ) → S * den s ≡ num s * 2 ^ 54 → HasValue s false S (2 ^ 54)
has_value nan p S e = absurd p
has_value (inf t) p S e = absurd p
has_value (fin true m d) p S e = absurd p
has_value (fin false m d) p S e = (refl, sym e)

-- from num s and den s to s * 2 ^ 54
near_of : (base : ℕ) (s : Float) (r : ℕ) → T (plain s) → scaled s * den s ≡ num s * 2 ^ 54 → Off r (num s) (base * den s) → Near base s r
near_of base s r p e h = record {
  whole = has_value s p (scaled s) e;
  over = le_of_mul-le-mul_right (over r base (num s) (den s) (scaled s) (2 ^ 54) (mul-le-mul_right (2 ^ 54) h.over) e (ap (λ (y : ℕ). r * y) e)) (den_pos s);
  short = le_of_mul-le-mul_right (short r base (num s) (den s) (scaled s) (2 ^ 54) (mul-le-mul_right (2 ^ 54) h.short) e (ap (λ (y : ℕ). r * y) e)) (den_pos s);
}
  where
    over : (r b N d S P : ℕ) → 1000 * (r * N) * P ≤ (1000 * (b * d) + 501 * N) * P → S * d ≡ N * P → r * (S * d) ≡ r * (N * P) → 1000 * (r * S) * d ≤ (1000 * (b * P) + 501 * S) * d
    over r b N d S P h e k = omega arith

    short : (r b N d S P : ℕ) → 1000 * (b * d) * P ≤ (1000 * (r * N) + 501 * N) * P → S * d ≡ N * P → r * (S * d) ≡ r * (N * P) → 1000 * (b * P) * d ≤ (1000 * (r * S) + 501 * S) * d
    short r b N d S P h e k = omega arith

off-same : (r c a : ℕ) → r * c ≡ a → Off r c a
off-same r c a e = record { over = omega arith; short = omega arith }

quotient-off : (base : ℕ) (s : Float) → base ≤ 2 ^ 36 → WithinPower 1 s → Off (round_away (div binary64 (of_int binary64 (pos base)) s)) (num s) (base * den s)
quotient-off base s h w =
    let P : T (positive s) = within-positive 1 s w in
    let q = div binary64 (of_int binary64 (pos base)) s in
    let z = round binary64 false (base * den s) (num s * 1) in
    let is : q ≡ z = div-at binary64 (of_int binary64 (pos base)) s base 1 (zero-lt-suc 0) (whole-value binary64 base (le_trans h (lit≤ tt))) P in
    let up_to : UpTo (2 ^ 36 * 4 ^ 1) q = div-up-to base (2 ^ 36) 1 s h (lit≤ tt) w in
    let fine : T (finite z) = subst (λ (y : Float). T (finite y)) is (up-to-finite (2 ^ 36 * 4 ^ 1) q up_to) in
    let small : base * den s ≤ 2 ^ 38 * (num s * 1) = le_trans (mul-le-mul h w.above) (le_of_eq (group (num s))) in
    subst (λ (c : ℕ). Off (round_away q) c (base * den s)) (mul-one (num s))
    (subst (λ (y : Float). Off (round_away y) (num s * 1) (base * den s)) (sym is)
    (round-off (base * den s) (num s * 1) (mul-pos (num_pos s P) (zero-lt-suc 0)) small fine))
  where
    group : (n : ℕ) → 2 ^ 36 * (n * 4) ≡ 2 ^ 38 * (n * 1)
    group n = omega arith

pub process-near : (base : ℕ) (s : Float) → base ≤ 2 ^ 36 → T (fits binary64 s) → T (is_speed s) → Near base s (process_at base s)
unfolding process_at
process-near base s h F k =
    let w : WithinPower 1 s = speed-within s k in
    go (eq s one) (eq-one s w.flat) w
  where
    go : (b : Bool) → (T b → num s ≡ den s) → WithinPower 1 s → Near base s (cond b base (round_away (div binary64 (of_int binary64 (pos base)) s)))
    go true e w = near_of base s base w.flat (scaled_exact s F w) (off-same base (num s) (base * den s) (ap (λ (y : ℕ). base * y) (e tt)))
    go false e w = near_of base s (round_away (div binary64 (of_int binary64 (pos base)) s)) w.flat (scaled_exact s F w) (quotient-off base s h w)

-- a bound on the result
half-up-le : (a c N : ℕ) → 0 < c → a ≤ N * c → half_up a c ≤ N
unfolding half_up
half-up-le a c N C h = le_of_suc-le-suc ((div-lt_iff_lt-mul (mul-pos (zero-lt-suc 1) C)).1 (under a c N C h))
  where
    under : (a c N : ℕ) → 0 < c → a ≤ N * c → 2 * a + c < suc N * (2 * c)
    under a c N C h = omega arith

away-le : (N : ℕ) (x : Float) → UpTo N x → round_away x ≤ N
unfolding round_away
away-le N nan u = absurd u.flat
away-le N (inf s) u = absurd u.flat
away-le N (fin s m e) u = half-up-le (m * up e) (down e) N (down_pos e) u.below

pub process-le : (base : ℕ) (s : Float) → base ≤ 2 ^ 36 → WithinPower 8 s → process_at base s ≤ 2 ^ 52
unfolding process_at
process-le base s h w = go (eq s one)
  where
    go : (b : Bool) → cond b base (round_away (div binary64 (of_int binary64 (pos base)) s)) ≤ 2 ^ 52
    go true = le_trans h (lit≤ tt)
    go false = away-le (2 ^ 52) (div binary64 (of_int binary64 (pos base)) s) (div-up-to base (2 ^ 36) 8 s h (lit≤ tt) w)
