-- The columns of a diary, lent: what its rules say of them, and sums over the bookings that a test picks, from a cell on and up to a
-- cell from which none is picked.
use Rattle.std.specs.Prelude.{◌≡◌, Bool, true, false, cond, List, [], ◌∷◌, ◌++◌, ◌⊎◌, get_or, ltb}
use Rattle.std.proofs.Math.Path.{refl}
use Rattle.std.proofs.Common.{sym, ◌∙◌, ⊎_elim, lt-ltb, ltb-true}
use Prim.Native.Nat.{ℕ, zero, suc, ◌+◌, ◌-◌, ◌*◌, ◌≤◌, ◌<◌, max}
use native.Mathlib.Omega.{arith}
use Rattle.calendar.specs.Search.{greatest_of}
use Rattle.calendar.specs.Laws.Searching.{greatest-snoc}
use Rattle.cells.specs.Laws.Basics.{no_way, and_split}
use Rattle.cells.specs.Cells.{Rising, before, Before}
use Rattle.timeline.specs.declared.ResourceTimeline.{ResourceTimeline}
use Rattle.timeline.specs.Bookings.{Booking, booking_at, bookings_to, bookings, latest_end}
use Rattle.timeline.specs.Free.{overlaps, on_at, tally}
use Rattle.timeline.specs.Steps.{Columns, From}
use Rattle.timeline.specs.Laws.Rules.{DiaryRules}
use Rattle.timeline.specs.Laws.Rows.{rows_step}
use Rattle.timeline.specs.Laws.Loading.{on, is-on}

-- cells that do not fall from one to the next never fall
rise : (xs : List ℕ) (n : ℕ) → ((k : ℕ) → k < n → before xs k ≤ get_or xs k 0) → (i d : ℕ) → i + d < n → get_or xs i 0 ≤ get_or xs (i + d) 0
unfolding before
rise xs n f i zero l =
    let e : i + 0 ≡ i = omega arith in
    rw e (omega arith)
rise xs n f i (suc d) l =
    let e : i + suc d ≡ suc (i + d) = omega arith in
    rw e (omega (arith, rise xs n f i d (omega arith), f (suc (i + d)) (omega arith)))

rising : (xs : List ℕ) (n : ℕ) → ((k : ℕ) → k < n → before xs k ≤ get_or xs k 0) → Rising xs n
rising xs n f j k a b =
    let e : j + (k - j) ≡ k = omega arith in
    rw e at (rise xs n f j (k - j) (omega arith))

-- the columns of a diary that keeps the rules
pub columns : (t : ResourceTimeline) → DiaryRules t → Columns t.starts t.ends t.units t.latest t.len
columns t rs = record {
  room = rs.room;
  order = λ k h. (rs.filled k h).order;
  few = λ k h. (rs.filled k h).few;
  starts = rising t.starts t.len (λ k h. (rs.filled k h).sorted);
  ends = λ k h. omega (arith, (rs.filled k h).latest);
  latest = rising t.latest t.len (λ k h. omega (arith, (rs.filled k h).latest));
}

-- the cells before the first whose latest end is at s or later end before s
pub from_cell : (ss es us ls : List ℕ) (n i s : ℕ) → Columns ss es us ls n → Before ls n s i → From ss es us n i s
from_cell ss es us ls n i s c b = record {
  room = c.room;
  order = c.order;
  few = c.few;
  starts = c.starts;
  first = b.few;
  past = λ k h. omega (arith, c.ends k (omega (arith, b.few)), b.low k h);
}

-- the latest end of the first n bookings is that of the last of them
latest-snoc : (bs : List Booking) (b : Booking) → latest_end (bs ++ (b ∷ [])) ≡ max (latest_end bs) b.end
unfolding latest_end
latest-snoc bs b = greatest-snoc (λ (b : Booking). b.end) bs b

latest-to : (t : ResourceTimeline) → DiaryRules t → (n : ℕ) → n ≤ t.len → latest_end (bookings_to t.starts t.ends t.units n) ≡ before t.latest n
unfolding bookings_to latest_end before greatest_of
latest-to t rs zero h = refl
latest-to t rs (suc n) h =
    let e = latest-snoc (bookings_to t.starts t.ends t.units n) (booking_at t.starts t.ends t.units n) in
    omega (arith, e, latest-to t rs n (omega arith), (rs.filled n (omega arith)).latest)

pub latest-last : (t : ResourceTimeline) → DiaryRules t → latest_end (bookings t) ≡ before t.latest t.len
latest-last t rs = latest-to t rs t.len (omega arith)

tally-snoc : (P : Booking → Bool) (bs : List Booking) (b : Booking) → tally P (bs ++ (b ∷ [])) ≡ tally P bs + cond (P b) b.units 0
unfolding tally
tally-snoc P [] b = omega arith
tally-snoc P (a ∷ bs) b = rw (tally-snoc P bs b) (omega arith)

module _ (P : Booking → Bool) (ss es us : List ℕ) where
  -- the sum over the first i bookings
  pub record Tally (i sum : ℕ) : Type 0 where
    pub is : sum ≡ tally P (bookings_to ss es us i)
    pub most : sum ≤ i * 10000

  more : (i : ℕ) → tally P (bookings_to ss es us (i + 1)) ≡ tally P (bookings_to ss es us i) + cond (P (booking_at ss es us i)) (get_or us i 0) 0
  more i = rw rows_step (tally-snoc P _ _)

  pub tally-yes : (i sum r : ℕ) → Tally i sum → P (booking_at ss es us i) ≡ true → get_or us i 0 ≤ 10000 → r ≡ sum + get_or us i 0 → Tally (i + 1) r
  tally-yes i sum r t h l e =
      let m = rw h at (more i) in
      record { is = omega (arith, t.is); most = omega (arith, t.most) }

  pub tally-no : (i sum r : ℕ) → Tally i sum → P (booking_at ss es us i) ≡ false → r ≡ sum → Tally (i + 1) r
  tally-no i sum r t h e =
      let m = rw h at (more i) in
      record { is = omega (arith, t.is); most = omega (arith, t.most) }

  -- none of the first i
  pub none-to : (i : ℕ) → ((k : ℕ) → k < i → P (booking_at ss es us k) ≡ false) → tally P (bookings_to ss es us i) ≡ 0
  unfolding tally bookings_to
  none-to zero f = refl
  none-to (suc i) f =
      let m = rw (f i (omega arith)) at (tally-snoc P (bookings_to ss es us i) (booking_at ss es us i)) in
      omega (arith, none-to i (λ k h. f k (omega arith)))

  pub tally-start : (i : ℕ) → ((k : ℕ) → k < i → P (booking_at ss es us k) ≡ false) → Tally i 0
  tally-start i f = record { is = sym (none-to i f); most = omega arith }

  -- none from i on
  rest : (i d : ℕ) → ((k : ℕ) → i ≤ k → k < i + d → P (booking_at ss es us k) ≡ false) → tally P (bookings_to ss es us (i + d)) ≡ tally P (bookings_to ss es us i)
  unfolding bookings_to
  rest i zero f =
      let e : i + 0 ≡ i = omega arith in
      rw e refl
  rest i (suc d) f =
      let e : i + suc d ≡ suc (i + d) = omega arith in
      let m = rw (f (i + d) (omega arith) (omega arith)) at (tally-snoc P (bookings_to ss es us (i + d)) (booking_at ss es us (i + d))) in
      rw e (omega (arith, rest i d (λ k h l. f k h (omega arith))))

  pub tally-end : (i n sum : ℕ) → Tally i sum → i ≤ n → ((k : ℕ) → i ≤ k → k < n → P (booking_at ss es us k) ≡ false) → sum ≡ tally P (bookings_to ss es us n)
  tally-end i n sum t l f =
      let e : i + (n - i) ≡ n = omega arith in
      t.is ∙ sym (rw e at (rest i (n - i) (λ k a b. f k a (omega arith))))

-- overlapping [s, e)
pub over_yes : (b : Booking) (s e : ℕ) → b.start < e → s < b.end → overlaps b s e ≡ true
unfolding overlaps
over_yes b s e h l = simp (lt-ltb _ _ h, lt-ltb _ _ l)

pub over-past : (b : Booking) (s e : ℕ) → b.end ≤ s → overlaps b s e ≡ false
unfolding overlaps
over-past b s e h = no_way _ (λ t. absurd (omega (arith, ltb-true s b.end (and_split (ltb b.start e) (ltb s b.end) t).1)))

pub over-ahead : (b : Booking) (s e : ℕ) → e ≤ b.start → overlaps b s e ≡ false
unfolding overlaps
over-ahead b s e h = no_way _ (λ t. absurd (omega (arith, ltb-true b.start e (and_split (ltb b.start e) (ltb s b.end) t).0)))

-- on at p of [s, e)
pub on-past : (b : Booking) (s e p : ℕ) → s ≤ p → b.end ≤ p → on_at b s e p ≡ false
on-past b s e p g h = no_way _ (λ t. absurd (omega (arith, (on b s e p t).to)))

pub on-ahead : (b : Booking) (s e p : ℕ) → e ≤ b.start ⊎ p < b.start → on_at b s e p ≡ false
on-ahead b s e p h =
    no_way _
    (λ t. ⊎_elim (λ (l : e ≤ b.start). absurd (omega (arith, (on b s e p t).starts))) (λ (l : p < b.start). absurd (omega (arith, (on b s e p t).from))) h)

pub on-yes : (b : Booking) (s e p : ℕ) → s ≤ p → b.start < e → b.start ≤ p → p < b.end → on_at b s e p ≡ true
on-yes b s e p g h l m = is-on b s e p (record { starts = h; ends = omega arith; from = l; to = m })
