-- The list of bookings against the columns of a diary; a booking put in; a diary is the one that its bookings make.
use Rattle.std.specs.Prelude.{◌≡◌, List, [], ◌∷◌, ◌++◌, map, length}
use Rattle.std.proofs.Math.Path.{refl, sym}
use Rattle.std.proofs.Common.{ap, ◌∙◌, ⊎_elim, eq-or-lt_of_le, mul-le-mul, add-one, arith, length-append}
use Prim.Native.Nat.{ℕ, zero, suc, ◌+◌, ◌-◌, ◌*◌, ◌^◌, ◌≤◌, ◌<◌, max}
use Rattle.std.proofs.Math.ListN.{get_or, get_or-map, get_or-append}
use Rattle.std.proofs.lemmas.List.{length-map, get_or_at}
use Rattle.cells.specs.Cells.{before, Before, Opened, Latest}
use Rattle.cells.specs.Laws.Basics.{lt-or-ge}
use Rattle.timeline.specs.declared.ResourceTimeline.{ResourceTimeline}
use Rattle.timeline.specs.Bookings.{Booking, booking, booking_at, bookings_to, bookings, total}
use Rattle.timeline.specs.Diary.{insert_booking, cells, latest_ends, diary, with_bookings}
use Rattle.timeline.specs.Laws.Rules.{DiaryRules}
use Rattle.timeline.specs.Laws.Same.{agree}
use Rattle.timeline.specs.Laws.Inserting.{put_at, insert-at, put-length, pad-at, column, opened-field}

abbrev pub none : Booking
none = booking 0 0 0

-- length times units
abbrev weight : Booking → ℕ
weight b = (b.end - b.start) * b.units

pub weight-le : (s e u : ℕ) → e ≤ 2 ^ 42 → u ≤ 10000 → (e - s) * u ≤ 43980465111040000
weight-le s e u h k =
    let d : e - s ≤ 2 ^ 42 = omega arith in
    omega (arith, mul-le-mul d k)

pub total-snoc : (bs : List Booking) (b : Booking) → total (bs ++ (b ∷ [])) ≡ total bs + weight b
unfolding total
total-snoc [] b = omega arith
total-snoc (a ∷ bs) b = rw (total-snoc bs b) (omega arith)

pub rows_step : (ss es us : List ℕ) (i : ℕ) → bookings_to ss es us (i + 1) ≡ bookings_to ss es us i ++ (booking_at ss es us i ∷ [])
unfolding bookings_to
rows_step ss es us i = rw (add-one i)

pub rows-length : (ss es us : List ℕ) (n : ℕ) → length (bookings_to ss es us n) ≡ n
unfolding bookings_to
rows-length ss es us zero = refl
rows-length ss es us (suc n) = simp (length-append, rows-length ss es us n) (omega arith)

pub rows_at : (ss es us : List ℕ) (n k : ℕ) → k < n → get_or (bookings_to ss es us n) k none ≡ booking_at ss es us k
unfolding bookings_to
rows_at ss es us zero k h = absurd (omega arith)
rows_at ss es us (suc n) k h =
    ⊎_elim
    (λ (e : k ≡ n). rw e (get_or_at (bookings_to ss es us n) (booking_at ss es us n) [] none n (rows-length ss es us n)))
    (λ (l : k < n). get_or-append (bookings_to ss es us n) _ none k (rw (rows-length ss es us n) l) ∙ rows_at ss es us n k l)
    (eq-or-lt_of_le (omega arith))

abbrev row_at : ResourceTimeline → ℕ → Booking
row_at t i = booking_at t.starts t.ends t.units i

-- how many bookings a diary has, and which stands at an index
pub count : (t : ResourceTimeline) → length (bookings t) ≡ t.len
count t = rows-length t.starts t.ends t.units t.len

pub booking-at : (t : ResourceTimeline) (k : ℕ) → k < t.len → get_or (bookings t) k none ≡ row_at t k
booking-at t k h = rows_at t.starts t.ends t.units t.len k h

total-put : (at : ℕ) (b : Booking) (bs : List Booking) → total (put_at at b bs) ≡ total bs + weight b
unfolding total
total-put zero b bs = omega arith
total-put (suc at) b [] = omega arith
total-put (suc at) b (x ∷ xs) = rw (total-put at b xs) (omega arith)

pub latest-length : (m : ℕ) (bs : List Booking) → length (latest_ends m bs) ≡ length bs
unfolding latest_ends
latest-length m [] = refl
latest-length m (b ∷ bs) = ap suc (latest-length (max m b.end) bs)

latest-first : (m : ℕ) (bs : List Booking) → 0 < length bs → get_or (latest_ends m bs) 0 0 ≡ max m (get_or bs 0 none).end
unfolding latest_ends
latest-first m [] h = absurd (omega arith)
latest-first m (b ∷ bs) h = refl

latest-next : (m : ℕ) (bs : List Booking) (k : ℕ) → suc k < length bs
    → get_or (latest_ends m bs) (suc k) 0 ≡ max (get_or (latest_ends m bs) k 0) (get_or bs (suc k) none).end
unfolding latest_ends
latest-next m [] k h = absurd (omega arith)
latest-next m (b ∷ bs) zero h = latest-first (max m b.end) bs (omega arith)
latest-next m (b ∷ bs) (suc k) h = latest-next (max m b.end) bs k (omega arith)

-- running latest ends by the cells are those of the bookings
running : (ls es : List ℕ) (bs : List Booking) → ((k : ℕ) → k < length bs → get_or ls k 0 ≡ max (before ls k) (get_or es k 0))
    → ((k : ℕ) → k < length bs → get_or es k 0 ≡ (get_or bs k none).end)
    → (k : ℕ) → k < length bs → get_or ls k 0 ≡ get_or (latest_ends 0 bs) k 0
unfolding before
running ls es bs f g zero h = f 0 h ∙ rw (g 0 h) (sym (latest-first 0 bs h))
running ls es bs f g (suc k) h = f (suc k) h ∙ rw (g (suc k) h, running ls es bs f g k (omega arith)) (sym (latest-next 0 bs k h))

-- the columns have 64 cells
pub record Long (t : ResourceTimeline) : Type 0 where
  pub starts : length t.starts ≡ 64
  pub ends : length t.ends ≡ 64
  pub units : length t.units ≡ 64
  pub latest : length t.latest ≡ 64

-- a diary that keeps the rules is the one that its bookings make
module _ (t : ResourceTimeline) (g : Long t) (r : DiaryRules t) where
  field_at : (f : Booking → ℕ) (k : ℕ) → k < t.len → get_or (map f (bookings t)) k (f none) ≡ f (row_at t k)
  field_at f k h = get_or-map f (bookings t) k none ∙ ap f (booking-at t k h)

  field : (f : Booking → ℕ) (xs : List ℕ) → f none ≡ 0 → length xs ≡ 64 → ((k : ℕ) → k < t.len → get_or xs k 0 ≡ f (row_at t k))
      → ((k : ℕ) → t.len ≤ k → k < 64 → get_or xs k 0 ≡ 0) → xs ≡ cells (map f (bookings t))
  field f xs z l h e =
      column xs (map f (bookings t)) t.len l r.room (length-map (bookings t) f ∙ count t)
      (λ k m. h k m ∙ sym (field_at f k m) ∙ rw z refl)
      e

  pub canon : t ≡ with_bookings t (bookings t)
  unfolding diary
  canon =
      agree _ _ (record {
        capacity = refl;
        calendar = refl;
        starts = field (λ b. b.start) t.starts refl g.starts (λ k h. refl) (λ k h l. (r.empty k h l).starts0);
        ends = field (λ b. b.end) t.ends refl g.ends (λ k h. refl) (λ k h l. (r.empty k h l).ends0);
        units = field (λ b. b.units) t.units refl g.units (λ k h. refl) (λ k h l. (r.empty k h l).units0);
        latest = column t.latest (latest_ends 0 (bookings t)) t.len g.latest r.room (latest-length 0 (bookings t) ∙ count t) latest-is (λ k h l. (r.empty k h l).latest0);
        len = sym (count t);
        booked = r.sum;
      })
    where
      latest-is : (k : ℕ) → k < t.len → get_or t.latest k 0 ≡ get_or (latest_ends 0 (bookings t)) k 0
      latest-is k h =
          running t.latest t.ends (bookings t)
          (λ i l. (r.filled i (rw (count t) at l)).latest)
          (λ i l. sym (ap (λ (b : Booking). b.end) (booking-at t i (rw (count t) at l))))
          k
          (rw (count t) h)

-- what the code makes of a diary t for a booking b, at index at
pub record PutIn (t r : ResourceTimeline) (b : Booking) (at : ℕ) : Type 0 where
  pub capacity : r.capacity ≡ t.capacity
  pub calendar : r.calendar ≡ t.calendar
  pub place : Before t.starts t.len (b.start + 1) at
  pub starts : Opened t.starts at t.len b.start r.starts
  pub ends : Opened t.ends at t.len b.end r.ends
  pub units : Opened t.units at t.len b.units r.units
  pub latest : Latest t.latest r.ends at (t.len + 1) r.latest
  pub len : r.len ≡ t.len + 1
  pub booked : r.booked ≡ t.booked + weight b

module _ (t r : ResourceTimeline) (b : Booking) (at : ℕ) (p : PutIn t r b at) (g : Long t) (l : Long r) (rs : DiaryRules t) (room : t.len < 64) where
  abbrev bs : List Booking
  bs = bookings t

  within : at ≤ length bs
  within = rw (count t) p.place.few

  -- behind those that start at or before it, and ahead of the others
  inserted : insert_booking b bs ≡ put_at at b bs
  inserted =
      insert-at (λ x. x.start) none b bs at within
      (λ k h. rw (booking-at t k (omega (arith, p.place.few))) (omega (arith, p.place.low k h)))
      (λ h. let m : at < t.len = rw (count t) at h in rw (booking-at t at m) (omega (arith, p.place.high at (omega arith) m)))

  put-field : (f : Booking → ℕ) (xs ys : List ℕ) → xs ≡ cells (map f bs) → length ys ≡ 64 → Opened xs at t.len (f b) ys → ys ≡ cells (map f (put_at at b bs))
  put-field f xs ys e long o = opened-field f b bs xs ys at e within (rw (count t) room) long (rw (count t) o)

  before-low : (xs ys : List ℕ) → ((k : ℕ) → k < at → get_or ys k 0 ≡ get_or xs k 0) → (k : ℕ) → k ≤ at → before ys k ≡ before xs k
  unfolding before
  before-low xs ys f zero h = refl
  before-low xs ys f (suc k) h = f k (omega arith)

  runs : (k : ℕ) → k < t.len + 1 → get_or r.latest k 0 ≡ max (before r.latest k) (get_or r.ends k 0)
  runs k h =
      ⊎_elim
      (λ (m : k < at).
      rw (p.latest.low k m, p.ends.low k 0 m, before-low t.latest r.latest p.latest.low k (omega arith))
      (rs.filled k (omega (arith, p.place.few))).latest)
      (λ (m : at ≤ k). p.latest.run k m h)
      (lt-or-ge k at)

  put-latest : r.ends ≡ cells (map (λ x. x.end) (put_at at b bs)) → r.latest ≡ cells (latest_ends 0 (put_at at b bs))
  put-latest e =
      let n : length (put_at at b bs) ≡ t.len + 1 = omega (arith, put-length at b bs within, count t) in
      column r.latest (latest_ends 0 (put_at at b bs)) (t.len + 1) l.latest (omega arith) (latest-length 0 (put_at at b bs) ∙ n)
      (λ k h.
      running r.latest r.ends (put_at at b bs) (λ i m. runs i (omega (arith, n)))
      (λ i m. rw e (pad-at (map (λ x. x.end) (put_at at b bs)) (64 - length (map (λ x. x.end) (put_at at b bs))) i ∙ get_or-map (λ x. x.end) (put_at at b bs) i none))
      k
      (omega (arith, n)))
      (λ k h m. p.latest.rest k (omega arith) ∙ (rs.empty k (omega arith) m).latest0)

  -- the diary with the booking
  pub put-made : r ≡ with_bookings t (insert_booking b bs)
  unfolding diary
  put-made =
      let own = canon t g rs in
      let ends = put-field (λ x. x.end) t.ends r.ends (ap (λ (x : ResourceTimeline). x.ends) own) l.ends p.ends in
      rw inserted
      (agree _ _ (record {
        capacity = p.capacity;
        calendar = p.calendar;
        starts = put-field (λ x. x.start) t.starts r.starts (ap (λ (x : ResourceTimeline). x.starts) own) l.starts p.starts;
        ends = ends;
        units = put-field (λ x. x.units) t.units r.units (ap (λ (x : ResourceTimeline). x.units) own) l.units p.units;
        latest = put-latest ends;
        len = p.len ∙ omega (arith, put-length at b bs within, count t);
        booked = p.booked ∙ rw rs.sum (sym (total-put at b bs));
      }))

-- the booked total is small
pub total-le : (t : ResourceTimeline) → DiaryRules t → (n : ℕ) → n ≤ t.len → total (bookings_to t.starts t.ends t.units n) ≤ n * 43980465111040000
unfolding bookings_to total
total-le t rs zero h = omega arith
total-le t rs (suc n) h =
    let f = rs.filled n h in
    rw (total-snoc (bookings_to t.starts t.ends t.units n) (row_at t n))
    (omega (arith, total-le t rs n (omega arith), weight-le (get_or t.starts n 0) (get_or t.ends n 0) (get_or t.units n 0) f.range f.few))
