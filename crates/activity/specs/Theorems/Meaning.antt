-- What the definitions of an order amount to: which own durations win, what a process time is in exact cases and how near it is
-- otherwise, how large durations get, and what serving means bit by bit.
use Rattle.std.specs.Prelude.{◌≡◌, ℕ, zero, suc, ◌+◌, ◌-◌, ◌*◌, ◌/◌, ◌%◌, ◌^◌, ◌<◌, ◌≤◌, Bool, true, false, cond, T, ◌⊎◌, List, [], ◌∷◌, length, get_or, pos, negsuc, ◌==◌, ◌≢◌, nat_eq, nat_le, nat_lt, slice_index_or, Option, Some, None}
use Rattle.std.proofs.Math.Path.{refl}
use Rattle.std.proofs.Common.{sym, ap, ◌∙◌, subst, inl, inr, ⊎_elim, le_trans, le_of_lt, lt_of_lt_of_le, zero-lt-suc, mul-pos, mul-one, one-mul, mul_assoc, mul_right_comm, div-one, eq-or-lt_of_le, arith, lit≤, pow-add, pow_mono, shl_lt, lt-ltb, le-ltb, le-leb, leb-true, eq-eqb, ne_eqb, eqb-true}
use Rattle.std.proofs.Math.Nat.{div-eq_of_lt-le, div-div-eq-div-mul, pow-succ'}
use Rattle.std.specs.Prelude.{Float}
use Rattle.std.specs.Float.{fin, binary64}
use Rattle.std.specs.Float.Ieee.{round, eq, div, of_int, fits}
use Rattle.std.specs.Float.Ieee.Exact.{round_exact}
use Rattle.std.specs.Float.Ieee.Positive.{num, den, positive}
use Rattle.std.proofs.lemmas.Bool.{eqb-false}
use Rattle.cells.specs.Laws.Basics.{and_split, and-join, lt-or-ge}
use Rattle.activity.specs.declared.ActivityDuration.{ActivityDuration}
use Rattle.activity.specs.declared.ResourceTiming.{ResourceTiming}
use Rattle.activity.specs.declared.ResourceTiming.TheVariants.{Nothing, Speed, Duration}
use Rattle.activity.specs.declared.ResourceRequirement.{ResourceRequirement}
use Rattle.activity_speeds.specs.Speeds.{one, is_speed, half_up, round_away, process_at, Near, WithinPower}
use Rattle.activity.specs.Durations.{timing_of, held_timings, total, Leading, nobody, owned, greater, greatest, product, settled, duration_on}
use Rattle.calendar.specs.Sets.{bit}
use Rattle.activity.specs.Serving.{covers, candidate, serves}
use Rattle.activity.specs.Ready.{ready_of}
use Rattle.activity.specs.Check.{release_right}
use Rattle.activity.specs.Lawful.{LawfulLead, Lawful}
use Rattle.activity_speeds.proofs.Rounding.{away-of-value, half-up-whole, half-up-same}
use Rattle.activity_speeds.proofs.Bounds.{within-positive, within_more, speed-within, one-within, div-at, whole-value, num_pos, positive-plain}
use Rattle.activity_speeds.proofs.Nearness.{eq-one, process-near, process-le}
use Rattle.activity_speeds.proofs.Identity.{one-times}
use Rattle.activity.specs.Laws.Holding.{product-within, greatest-lawful}

-- Rounding: what `half-up-bounds` says of `half_up a c` is true of no other r.
pub half-up-only : (a c r : ℕ) → 2 * (r * c) ≤ 2 * a + c → 2 * a < 2 * (r * c) + c → half_up a c ≡ r
unfolding half_up
half-up-only a c r h k = div-eq_of_lt-le (2 * c) lo hi
  where
    lo : r * (2 * c) ≤ 2 * a + c
    lo = omega arith

    hi : 2 * a + c < (r + 1) * (2 * c)
    hi = omega arith

-- Exact cases: where the quotient is a double, q / 2 ^ j with q below 2 ^ 53, nothing is lost before the last rounding ..
exact-quotient : (base : ℕ) (s : Float) (q j : ℕ) → base ≤ 2 ^ 53 → T (positive s) → q < 2 ^ 53 → j ≤ 1074 → base * den s * 2 ^ j ≡ q * num s
    → round_away (div binary64 (of_int binary64 (pos base)) s) ≡ half_up (base * den s) (num s)
exact-quotient base s q j h P small l e =
    let a = base * den s in
    let c = num s * 1 in
    let z = round binary64 false a c in
    let C : 0 < c = mul-pos (num_pos s P) (zero-lt-suc 0) in
    let is : div binary64 (of_int binary64 (pos base)) s ≡ z = div-at binary64 (of_int binary64 (pos base)) s base 1 (zero-lt-suc 0) (whole-value binary64 base h) P in
    let k = 1074 - j in
    let split : 2 ^ 1074 ≡ 2 ^ j * 2 ^ k = ap (λ (y : ℕ). 2 ^ y) (join j l) ∙ pow-add 2 j k in
    let fits_in : q * 2 ^ k < 2 ^ (1074 + 1024) = lt_of_lt_of_le (shl_lt 53 k small) (pow_mono (room j)) in
    let at : a * 2 ^ 1074 ≡ q * 2 ^ k * c =
    ap (λ (y : ℕ). a * y) split ∙ sym (mul_assoc a (2 ^ j) (2 ^ k)) ∙ ap (λ (y : ℕ). y * 2 ^ k) (e ∙ ap (λ (y : ℕ). q * y) (sym (mul-one (num s)))) ∙ mul_right_comm q c (2 ^ k) in
    ap round_away is ∙ away-of-value z false a c C (round_exact binary64 false a c q k C small fits_in at) ∙ ap (half_up a) (mul-one (num s))
  where
    join : (j : ℕ) → j ≤ 1074 → 1074 ≡ j + (1074 - j)
    join j h = omega arith

    room : (j : ℕ) → 53 + (1074 - j) ≤ 2098
    room j = omega arith

pub process-exact : (base : ℕ) (s : Float) (q j : ℕ) → base ≤ 2 ^ 53 → T (positive s) → q < 2 ^ 53 → j ≤ 1074 → base * den s * 2 ^ j ≡ q * num s
    → process_at base s ≡ half_up (base * den s) (num s)
unfolding process_at
process-exact base s q j h P small l e = go (eq s one) (eq-one s (positive-plain s P)) (exact-quotient base s q j h P small l e)
  where
    go : (b : Bool) → (T b → num s ≡ den s) → round_away (div binary64 (of_int binary64 (pos base)) s) ≡ half_up (base * den s) (num s)
        → cond b base (round_away (div binary64 (of_int binary64 (pos base)) s)) ≡ half_up (base * den s) (num s)
    go true k x =
        sym (half-up-whole base) ∙ half-up-same base 1 (base * den s) (num s) (zero-lt-suc 0) (num_pos s P) (ap (λ (y : ℕ). base * y) (k tt) ∙ sym (mul-one (base * den s)))
    go false k x = x

-- .. so a whole quotient r is the result ..
pub process-whole : (base : ℕ) (s : Float) (r : ℕ) → base ≤ 2 ^ 53 → T (positive s) → r < 2 ^ 53 → base * den s ≡ r * num s → process_at base s ≡ r
process-whole base s r h P small e =
    process-exact base s r 0 h P small (lit≤ tt) (mul-one (base * den s) ∙ e)
    ∙ half-up-same (base * den s) (num s) r 1 (num_pos s P) (zero-lt-suc 0) (mul-one (base * den s) ∙ e)
    ∙ half-up-whole r

-- .. and at a speed that is a power of two the result is the base over it, rounded, or the base times its inverse
pub process-faster : (base k : ℕ) → base < 2 ^ 53 → k ≤ 1023 → process_at base (fin false 1 (pos k)) ≡ half_up base (2 ^ k)
process-faster base k h l =
    process-exact base (fin false 1 (pos k)) base k (le_of_lt h) tt h (le_trans l (lit≤ tt))
    (ap (λ (y : ℕ). y * 2 ^ k) (mul-one base) ∙ ap (λ (y : ℕ). base * y) (sym (one-mul (2 ^ k))))
    ∙ ap (λ (y : ℕ). half_up y (1 * 2 ^ k)) (mul-one base) ∙ ap (half_up base) (one-mul (2 ^ k))

pub process-slower : (base k : ℕ) → base ≤ 2 ^ 53 → base * 2 ^ suc k < 2 ^ 53 → process_at base (fin false 1 (negsuc k)) ≡ base * 2 ^ suc k
process-slower base k h l = process-whole base (fin false 1 (negsuc k)) (base * 2 ^ suc k) h tt l (sym (mul-one (base * 2 ^ suc k)))

-- One resource held, with a speed s: the product is 1.0 * s, which is s, so that the result times s is within 0.501 * s of the base.
module _ (base : ActivityDuration) (timings : List ResourceTiming) (n : ℕ) (s : Float) (F : fits binary64 s ≡ true) (k : is_speed s ≡ true) (e : timing_of timings n ≡ Speed s) where
  pub single : duration_on base timings (n ∷ []) ≡ record { setup = base.setup; process = process_at base.process s; teardown = base.teardown }
  unfolding duration_on product greatest
  single =
      let w : WithinPower 1 s = speed-within s (subst T (sym k) tt) in
      rw (e, one-times s (subst T (sym F) tt) (within-positive 1 s w)) refl

  pub single-near : base.process ≤ 2 ^ 36 → Near base.process s (duration_on base timings (n ∷ [])).process
  single-near h = rw single (process-near base.process s h (subst T (sym F) tt) (subst T (sym k) tt))

-- How large: over at most eight resources a lawful order lasts at most this long.
pub record Bounded (d : ActivityDuration) : Type 0 where
  pub setup_range : d.setup ≤ 2 ^ 36
  pub process_range : d.process ≤ 2 ^ 52
  pub teardown_range : d.teardown ≤ 2 ^ 36

pub duration-bounded : (base : ActivityDuration) (timings : List ResourceTiming) (held : List ℕ) → Lawful base timings → length held ≤ 8 → Bounded (duration_on base timings held)
unfolding duration_on
duration-bounded base timings held l h =
    go (greatest nobody (held_timings timings held)) (greatest-lawful timings l.each held nobody tt)
    (within_more (0 + length held) 8 (product one (held_timings timings held)) (omega arith) (product-within timings l.each held 0 one (omega arith) one-within))
  where
    go : (f : Leading) → LawfulLead f → WithinPower 8 (product one (held_timings timings held)) → Bounded (settled base (product one (held_timings timings held)) f)
    go (owned d) s w = record { setup_range = s.setup_range; process_range = omega (arith, s.process_range); teardown_range = s.teardown_range }
    go nobody s w = record {
      setup_range = l.base_short.setup_range;
      process_range = process-le base.process (product one (held_timings timings held)) l.base_short.process_range w;
      teardown_range = l.base_short.teardown_range;
    }

-- Own durations d win: a resource held has them, no earlier one has as great a total, and no later one a greater.
pub record Wins (ts : List ResourceTiming) (d : ActivityDuration) : Type 0 where
  pub place : ℕ
  pub own : get_or ts place Nothing ≡ Duration d
  pub earlier : (k : ℕ) (x : ActivityDuration) → k < place → slice_index_or ts k Nothing ≡ Duration x → total x < total d
  pub later : (k : ℕ) (x : ActivityDuration) → place < k → slice_index_or ts k Nothing ≡ Duration x → total x ≤ total d

-- what leads so far has a smaller total
abbrev Below : Leading → ActivityDuration → Type 0
Below nobody d = Unit
Below (owned f) d = total f < total d

differ : (d : ActivityDuration) → Nothing ≢ Duration d
differ d e = let z : ◌≡◌ {A = ℕ} 0 1 = cc in omega arith

no-speed : (s : Float) (d : ActivityDuration) → Speed s ≢ Duration d
no-speed s d e = let z : ◌≡◌ {A = ℕ} 0 1 = cc in omega arith

taken-over : (f : Leading) (d : ActivityDuration) → Below f d → greater f (Duration d) ≡ owned d
taken-over nobody d b = refl
taken-over (owned f) d b = rw (lt-ltb (total f) (total d) b) refl

still-below : (f : Leading) (t : ResourceTiming) (d : ActivityDuration) → Below f d → ((x : ActivityDuration) → t ≡ Duration x → total x < total d) → Below (greater f t) d
still-below f Nothing d b h = b
still-below f (Speed s) d b h = b
still-below nobody (Duration x) d b h = h x refl
still-below (owned f) (Duration x) d b h = go (nat_lt (total f) (total x))
  where
    go : (o : Bool) → Below (cond o (owned x) (owned f)) d
    go true = h x refl
    go false = b

still-leads : (t : ResourceTiming) (d : ActivityDuration) → ((x : ActivityDuration) → t ≡ Duration x → total x ≤ total d) → greater (owned d) t ≡ owned d
still-leads Nothing d h = refl
still-leads (Speed s) d h = refl
still-leads (Duration x) d h = rw (le-ltb (total d) (total x) (h x refl)) refl

leads-on : (ts : List ResourceTiming) (d : ActivityDuration) → ((k : ℕ) (x : ActivityDuration) → slice_index_or ts k Nothing ≡ Duration x → total x ≤ total d)
    → greatest (owned d) ts ≡ owned d
unfolding greatest
leads-on [] d h = refl
leads-on (t ∷ ts) d h = rw (still-leads t d (h 0)) (leads-on ts d (λ k. h (suc k)))

wins-from : (ts : List ResourceTiming) (f : Leading) (d : ActivityDuration) → Below f d → (place : ℕ) → slice_index_or ts place Nothing ≡ Duration d
    → ((k : ℕ) (x : ActivityDuration) → k < place → slice_index_or ts k Nothing ≡ Duration x → total x < total d)
    → ((k : ℕ) (x : ActivityDuration) → place < k → slice_index_or ts k Nothing ≡ Duration x → total x ≤ total d) → greatest f ts ≡ owned d
unfolding greatest
wins-from [] f d b place o earlier later = absurd (differ d o)
wins-from (t ∷ ts) f d b zero o earlier later = rw (o, taken-over f d b) (leads-on ts d (λ k x. later (suc k) x (omega arith)))
wins-from (t ∷ ts) f d b (suc place) o earlier later =
    wins-from ts (greater f t) d (still-below f t d b (λ x. earlier 0 x (omega arith))) place o (λ k x h. earlier (suc k) x (omega arith)) (λ k x h. later (suc k) x (omega arith))

none-leads : (ts : List ResourceTiming) → ((k : ℕ) (x : ActivityDuration) → slice_index_or ts k Nothing ≢ Duration x) → greatest nobody ts ≡ nobody
unfolding greatest
none-leads [] h = refl
none-leads (t ∷ ts) h = rw (skip t (h 0)) (none-leads ts (λ k. h (suc k)))
  where
    skip : (t : ResourceTiming) → ((x : ActivityDuration) → t ≢ Duration x) → greater nobody t ≡ nobody
    skip Nothing h = refl
    skip (Speed s) h = refl
    skip (Duration d) h = absurd (h d refl)

module _ (base : ActivityDuration) (timings : List ResourceTiming) (held : List ℕ) where
  -- own durations that win are the order's ..
  pub own-wins : (d : ActivityDuration) → Wins (held_timings timings held) d → duration_on base timings held ≡ d
  unfolding duration_on
  own-wins d w = rw (wins-from (held_timings timings held) nobody d tt w.place w.own w.earlier w.later) refl

  -- .. and where no resource held has any, the base is, with its process time at the product of the speeds; at exactly 1.0 the base itself
  pub none-own : ((k : ℕ) (x : ActivityDuration) → slice_index_or (held_timings timings held) k Nothing ≢ Duration x)
      → duration_on base timings held ≡ record { setup = base.setup; process = process_at base.process (product one (held_timings timings held)); teardown = base.teardown }
  unfolding duration_on
  none-own h = rw (none-leads (held_timings timings held) h) refl

  pub exactly-one : ((k : ℕ) (x : ActivityDuration) → slice_index_or (held_timings timings held) k Nothing ≢ Duration x) → eq (product one (held_timings timings held)) one ≡ true
      → duration_on base timings held ≡ base
  unfolding process_at
  exactly-one h e = none-own h ∙ rw e refl

-- One of the two is the case: no resource held has own durations, or some win.
same-duration : (d x : ActivityDuration) → Duration d ≡ Duration x → d ≡ x
same-duration d x e = cc

pub none-or-wins : (ts : List ResourceTiming) → ((k : ℕ) (x : ActivityDuration) → slice_index_or ts k Nothing ≢ Duration x) ⊎ ((d : ActivityDuration) × Wins ts d)
none-or-wins [] = inl (λ k x e. differ x e)
none-or-wins (t ∷ ts) = go t (none-or-wins ts)
  where
    None : List ResourceTiming → Type 0
    None us = (k : ℕ) (x : ActivityDuration) → slice_index_or us k Nothing ≢ Duration x

    -- own durations behind one that has none, or a smaller total
    behind : (t : ResourceTiming) (d : ActivityDuration) → ((x : ActivityDuration) → t ≡ Duration x → total x < total d) → Wins ts d → Wins (t ∷ ts) d
    behind t d h w = record { place = suc w.place; own = w.own; earlier = less; later = most }
      where
        less : (k : ℕ) (x : ActivityDuration) → k < suc w.place → slice_index_or (t ∷ ts) k Nothing ≡ Duration x → total x < total d
        less zero x l e = h x e
        less (suc k) x l e = w.earlier k x (omega arith) e

        most : (k : ℕ) (x : ActivityDuration) → suc w.place < k → slice_index_or (t ∷ ts) k Nothing ≡ Duration x → total x ≤ total d
        most zero x l e = absurd (omega arith)
        most (suc k) x l e = w.later k x (omega arith) e

    -- own durations in front of others, none of a greater total
    front : (d : ActivityDuration) → ((k : ℕ) (x : ActivityDuration) → slice_index_or ts k Nothing ≡ Duration x → total x ≤ total d) → Wins (Duration d ∷ ts) d
    front d h = record { place = 0; own = refl; earlier = λ k x l e. absurd (omega arith); later = most }
      where
        most : (k : ℕ) (x : ActivityDuration) → 0 < k → slice_index_or (Duration d ∷ ts) k Nothing ≡ Duration x → total x ≤ total d
        most zero x l e = absurd (omega arith)
        most (suc k) x l e = h k x e

    -- no total is greater than the winner's
    at_most : (d : ActivityDuration) → Wins ts d → (k : ℕ) (x : ActivityDuration) → slice_index_or ts k Nothing ≡ Duration x → total x ≤ total d
    at_most d w k x e =
        ⊎_elim
        (λ (l : k < w.place). omega (arith, w.earlier k x l e))
        (λ (l : w.place ≤ k). ⊎_elim (λ (q : w.place ≡ k). omega (arith, ap total (same-duration x d (sym e ∙ rw (← q) w.own))))
        (λ (m : w.place < k). w.later k x m e) (eq-or-lt_of_le l))
        (lt-or-ge k w.place)

    quiet : (t : ResourceTiming) → ((x : ActivityDuration) → t ≢ Duration x) → None ts → None (t ∷ ts)
    quiet t h f zero x e = h x e
    quiet t h f (suc k) x e = f k x e

    go : (t : ResourceTiming) → None ts ⊎ ((d : ActivityDuration) × Wins ts d) → None (t ∷ ts) ⊎ ((d : ActivityDuration) × Wins (t ∷ ts) d)
    go Nothing (inl f) = inl (quiet Nothing (λ x e. differ x e) f)
    go Nothing (inr w) = inr (w.0, behind Nothing w.0 (λ x e. absurd (differ x e)) w.1)
    go (Speed s) (inl f) = inl (quiet (Speed s) (λ x e. no-speed s x e) f)
    go (Speed s) (inr w) = inr (w.0, behind (Speed s) w.0 (λ x e. absurd (no-speed s x e)) w.1)
    go (Duration d) (inl f) = inr (d, front d (λ k x e. absurd (f k x e)))
    go (Duration d) (inr w) =
        ⊎_elim
        (λ (l : total d < total w.0). inr (w.0, behind (Duration d) w.0 (λ x e. omega (arith, ap total (same-duration d x e))) w.1))
        (λ (l : total w.0 ≤ total d). inr (d, front d (λ k x e. omega (arith, at_most w.0 w.1 k x e))))
        (lt-or-ge (total d) (total w.0))

-- Bit by bit: every bit that is required is set.
bit-low : (m : ℕ) → bit m 0 ≡ (m % 2 == 1)
unfolding bit
bit-low m = ap (λ (x : ℕ). nat_eq (x % 2) 1) (div-one m)

bit_high : (m k : ℕ) → bit m (suc k) ≡ bit (m / 2) k
unfolding bit
bit_high m k = ap (λ (x : ℕ). nat_eq (x % 2) 1) (ap (λ (y : ℕ). m / y) (pow-succ' 2 k) ∙ sym (div-div-eq-div-mul m 2 (2 ^ k)))

pub covers-bits : (n need have : ℕ) → covers n need have ≡ true → (k : ℕ) → k < n → bit need k ≡ true → bit have k ≡ true
unfolding covers
covers-bits zero need have e k h b = absurd (omega arith)
covers-bits (suc n) need have e zero h b =
    let v = and_split (nat_le (need % 2) (have % 2)) (covers n (need / 2) (have / 2)) e in
    let l = leb-true (need % 2) (have % 2) v.0 in
    let o = eqb-true (need % 2) 1 (sym (bit-low need) ∙ b) in
    bit-low have ∙ eq-eqb (have % 2) 1 (omega arith)
covers-bits (suc n) need have e (suc k) h b =
    bit_high have k ∙ covers-bits n (need / 2) (have / 2) (and_split (nat_le (need % 2) (have % 2)) (covers n (need / 2) (have / 2)) e).1 k (omega arith) (sym (bit_high need k) ∙ b)

zero-or-one : (a b : ℕ) → a < 2 → (a ≢ 1) → a ≤ b
zero-or-one zero b h z = omega arith
zero-or-one (suc zero) b h z = absurd (z refl)
zero-or-one (suc (suc a)) b h z = absurd (omega arith)

pub bits-cover : (n need have : ℕ) → ((k : ℕ) → k < n → bit need k ≡ true → bit have k ≡ true) → covers n need have ≡ true
unfolding covers
bits-cover zero need have f = refl
bits-cover (suc n) need have f =
    and-join (nat_le (need % 2) (have % 2)) (covers n (need / 2) (have / 2)) (low (need % 2 == 1) refl)
    (bits-cover n (need / 2) (have / 2) (λ k h b. sym (bit_high have k) ∙ f (suc k) (omega arith) (bit_high need k ∙ b)))
  where
    low : (o : Bool) → (need % 2 == 1) ≡ o → nat_le (need % 2) (have % 2) ≡ true
    low true e = le-leb (need % 2) (have % 2) (omega (arith, eqb-true (need % 2) 1 e, eqb-true (have % 2) 1 (sym (bit-low have) ∙ f 0 (omega arith) (bit-low need ∙ e))))
    low false e = let z : need % 2 ≡ 1 → ⊥ = eqb-false (need % 2) 1 e in le-leb (need % 2) (have % 2) (zero-or-one (need % 2) (have % 2) (omega arith) z)

-- What serving asks of a resource.
pub record Serves (q : ResourceRequirement) (number kind skills : ℕ) : Type 0 where
  pub named : ((q.candidates ≡ 0) × (kind ≡ q.kind)) ⊎ ((q.candidates ≢ 0) × (bit q.candidates number ≡ true))
  pub skilled : (k : ℕ) → k < 64 → bit q.skills k ≡ true → bit skills k ≡ true

pub serves-means : (q : ResourceRequirement) (number kind skills : ℕ) → serves q number kind skills ≡ true → Serves q number kind skills
unfolding serves candidate
serves-means q number kind skills e =
    let v = and_split (cond (q.candidates == 0) (kind == q.kind) (bit q.candidates number)) (covers 64 q.skills skills) e in
    record { named = go (q.candidates == 0) refl v.0; skilled = covers-bits 64 q.skills skills v.1 }
  where
    go : (b : Bool) → (q.candidates == 0) ≡ b → cond b (kind == q.kind) (bit q.candidates number) ≡ true
        → ((q.candidates ≡ 0) × (kind ≡ q.kind)) ⊎ ((q.candidates ≢ 0) × (bit q.candidates number ≡ true))
    go true z r = inl (eqb-true q.candidates 0 z, eqb-true kind q.kind r)
    go false z r = inr (eqb-false q.candidates 0 z, r)

pub serves-is : (q : ResourceRequirement) (number kind skills : ℕ) → Serves q number kind skills → serves q number kind skills ≡ true
unfolding serves candidate
serves-is q number kind skills s =
    ⊎_elim
    (λ (n : (q.candidates ≡ 0) × (kind ≡ q.kind)). rw (eq-eqb q.candidates 0 n.0, eq-eqb kind q.kind n.1, bits-cover 64 q.skills skills s.skilled) refl)
    (λ (n : (q.candidates ≢ 0) × (bit q.candidates number ≡ true)). rw (ne_eqb q.candidates 0 n.0, n.1, bits-cover 64 q.skills skills s.skilled) refl)
    s.named

-- Ready: never before ready, and an instant where both are
pub ready-least : (r : Option ℕ) (ready : ℕ) → ready ≤ ready_of r ready
unfolding ready_of
ready-least None ready = omega arith
ready-least (Some release) ready = omega arith

pub ready_range : (r : Option ℕ) (ready : ℕ) → release_right r ≡ true → ready ≤ 2 ^ 42 → ready_of r ready ≤ 2 ^ 42
unfolding ready_of release_right
ready_range None ready e h = h
ready_range (Some release) ready e h = omega (arith, leb-true release (2 ^ 42) e)
