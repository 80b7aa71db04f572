-- A list of bookings in order makes a diary that keeps the rules, and inserting a booking keeps the order.
use Rattle.std.specs.Prelude.{◌≡◌, refl, Bool, true, false, cond, List, [], ◌∷◌, ◌++◌, map, ℕ, zero, suc, ◌-◌, ◌^◌, ◌≤◌, ◌<◌, max, get_or, length, replicate, take, leb}
use Rattle.std.proofs.Common.{sym, ap, ◌∙◌, arith, take_all, take-suc, leb-true, leb-false}
use Rattle.std.proofs.lemmas.List.{length-map}
use Rattle.std.proofs.Math.ListN.{get_or-eq_default, get_or-map}
use Rattle.calendar.specs.declared.Calendar.{Calendar}
use Rattle.calendar.specs.Add.{empty}
use Rattle.calendar.specs.Valid as calendar
use Rattle.cells.specs.Every.{every_from}
use Rattle.timeline.specs.declared.ResourceTimeline.{ResourceTimeline}
use Rattle.timeline.specs.Bookings.{Booking, bookings_to, bookings, total}
use Rattle.cells.specs.Cells.{before}
use Rattle.timeline.specs.Valid.{contents_right, valid}
use Rattle.timeline.specs.Diary.{insert_by_start, insert_booking, cells, latest_ends, diary, blank_diary, with_bookings}
use Rattle.timeline.specs.Laws.Rules.{CellFacts, rules_of, ruled}
use Rattle.timeline.specs.Laws.Inserting.{pad-at, length_inserted}
use Rattle.timeline.specs.Laws.Rows.{none, count, booking-at, latest-length, Long, PutIn, put-made}

-- a booking in range that starts at ps or later
pub record InRange (ps : ℕ) (b : Booking) : Type 0 where
  pub order : b.start < b.end
  pub range : b.end ≤ 2 ^ 42
  pub some : 1 ≤ b.units
  pub few : b.units ≤ 10000
  pub sorted : ps ≤ b.start

-- all in range and by start
pub data InOrder : ℕ → List Booking → Type 0 where
  order_end : {ps : ℕ} → InOrder ps []
  order_on : {ps : ℕ} → {b : Booking} → {bs : List Booking} → InRange ps b → InOrder b.start bs → InOrder ps (b ∷ bs)

-- the cell before cell i, p before the first
before_from : ℕ → List ℕ → ℕ → ℕ
before_from p xs zero = p
before_from p xs (suc i) = get_or xs i 0

before-cons : (x : ℕ) (xs : List ℕ) (i : ℕ) → get_or (x ∷ xs) i 0 ≡ before_from x xs i
unfolding before_from
before-cons x xs zero = refl
before-cons x xs (suc i) = refl

abbrev starts : List Booking → List ℕ
starts bs = map (λ b. b.start) bs

abbrev ends : List Booking → List ℕ
ends bs = map (λ b. b.end) bs

abbrev units_of : List Booking → List ℕ
units_of bs = map (λ b. b.units) bs

facts_at : (bs : List Booking) (ps pl i : ℕ) → InOrder ps bs → i < length bs
    → CellFacts (get_or (starts bs) i 0) (get_or (ends bs) i 0) (get_or (units_of bs) i 0) (get_or (latest_ends pl bs) i 0) (before_from ps (starts bs) i) (before_from pl (latest_ends pl bs) i)
unfolding latest_ends before_from
facts_at [] ps pl i o l = absurd (omega arith)
facts_at (b ∷ bs) ps pl zero (order_on r o) l = record { order = r.order; range = r.range; some = r.some; few = r.few; sorted = r.sorted; latest = refl }
facts_at (b ∷ bs) ps pl (suc i) (order_on r o) l =
    let f = facts_at bs b.start (max pl b.end) i o (omega arith) in
    record {
      order = f.order;
      range = f.range;
      some = f.some;
      few = f.few;
      sorted = rw (before-cons b.start (starts bs) i) f.sorted;
      latest = rw (before-cons (max pl b.end) (latest_ends (max pl b.end) bs) i) f.latest;
    }

before-cell : (xs : List ℕ) (n i : ℕ) → before (xs ++ replicate n 0) i ≡ before_from 0 xs i
unfolding before before_from
before-cell xs n zero = refl
before-cell xs n (suc i) = pad-at xs n i

rows : (bs : List Booking) (n : ℕ) → n ≤ length bs → bookings_to (cells (starts bs)) (cells (ends bs)) (cells (units_of bs)) n ≡ take n bs
unfolding bookings_to
rows bs zero l = refl
rows bs (suc n) l =
    let k = 64 - length (starts bs) in
    let s = pad-at (starts bs) (64 - length (starts bs)) n ∙ get_or-map (λ b. b.start) bs n none in
    let e = pad-at (ends bs) (64 - length (ends bs)) n ∙ get_or-map (λ b. b.end) bs n none in
    let u = pad-at (units_of bs) (64 - length (units_of bs)) n ∙ get_or-map (λ b. b.units) bs n none in
    rw (rows bs n (omega arith), s, e, u) (sym (take-suc bs n none l))

-- the bookings of the diary are the list
pub bookings-diary : (capacity : ℕ) (c : Calendar) (bs : List Booking) → bookings (diary capacity c bs) ≡ bs
unfolding diary
bookings-diary capacity c bs = rows bs (length bs) (omega arith) ∙ take_all (length bs) bs (omega arith)

pub diary-keeps : (capacity : ℕ) (c : Calendar) (bs : List Booking) → calendar.valid c ≡ true → 1 ≤ capacity → capacity < 2 ^ 31 → length bs ≤ 64
    → InOrder 0 bs → valid (diary capacity c bs) ≡ true
unfolding diary
diary-keeps capacity c bs v some few room o =
    ruled (diary capacity c bs)
    (record {
      calendar = v;
      some = some;
      few = few;
      room = room;
      filled = λ i l.
          let f = facts_at bs 0 0 i o l in
          rw (
            pad-at (starts bs) (64 - length (starts bs)) i,
            pad-at (ends bs) (64 - length (ends bs)) i,
            pad-at (units_of bs) (64 - length (units_of bs)) i,
            pad-at (latest_ends 0 bs) (64 - length (latest_ends 0 bs)) i,
            before-cell (starts bs) (64 - length (starts bs)) i,
            before-cell (latest_ends 0 bs) (64 - length (latest_ends 0 bs)) i,
          ) f;
      empty = λ i g l. record {
        starts0 = pad-at (starts bs) (64 - length (starts bs)) i ∙ get_or-eq_default (starts bs) 0 {n = i} (rw (length-map bs (λ b. b.start)) g);
        ends0 = pad-at (ends bs) (64 - length (ends bs)) i ∙ get_or-eq_default (ends bs) 0 {n = i} (rw (length-map bs (λ b. b.end)) g);
        units0 = pad-at (units_of bs) (64 - length (units_of bs)) i ∙ get_or-eq_default (units_of bs) 0 {n = i} (rw (length-map bs (λ b. b.units)) g);
        latest0 = pad-at (latest_ends 0 bs) (64 - length (latest_ends 0 bs)) i ∙ get_or-eq_default (latest_ends 0 bs) 0 {n = i} (rw (latest-length 0 bs) g);
      };
      sum = ap total (sym (bookings-diary capacity c bs));
    })

-- no windows and no blocks
pub always-open : calendar.valid empty ≡ true
unfolding empty calendar.valid calendar.spans_right every_from calendar.cell_right
always-open = refl

-- but for its capacity a blank diary keeps the rules
pub blank-right : contents_right blank_diary ≡ true
unfolding diary contents_right valid
blank-right = diary-keeps 1 empty [] always-open (omega arith) (omega arith) (omega arith) order_end

insert-order : (ps : ℕ) (b : Booking) (bs : List Booking) → InRange ps b → InOrder ps bs → InOrder ps (insert_booking b bs)
unfolding insert_by_start
insert-order ps b [] r order_end = order_on r order_end
insert-order ps b (x ∷ bs) r (order_on q o) = go (leb x.start b.start) refl (insert-order x.start b bs)
  where
    go : (k : Bool) → leb x.start b.start ≡ k → (InRange x.start b → InOrder x.start bs → InOrder x.start (insert_booking b bs))
        → InOrder ps (cond k (x ∷ insert_booking b bs) (b ∷ x ∷ bs))
    go true e f = order_on q (f (record { order = r.order; range = r.range; some = r.some; few = r.few; sorted = leb-true x.start b.start e }) o)
    go false e f =
        let l = leb-false x.start b.start e in
        order_on r (order_on {ps = b.start} (record { order = q.order; range = q.range; some = q.some; few = q.few; sorted = omega arith }) o)

by_index : (bs : List Booking) (ps : ℕ) → ((i : ℕ) → i < length bs → InRange (before_from ps (starts bs) i) (get_or bs i none)) → InOrder ps bs
unfolding before_from
by_index [] ps f = order_end
by_index (b ∷ bs) ps f =
    order_on (f 0 (omega arith))
    (by_index bs b.start (λ i l. rw (before-cons b.start (starts bs) i) at (f (suc i) (omega arith))))

-- the bookings of a diary that keeps the rules are in order
bookings-order : (t : ResourceTimeline) → valid t ≡ true → InOrder 0 (bookings t)
unfolding before_from before
bookings-order t v = by_index (bookings t) 0 one
  where
    one : (i : ℕ) → i < length (bookings t) → InRange (before_from 0 (starts (bookings t)) i) (get_or (bookings t) i none)
    one zero l =
        let h : 0 < t.len = rw (count t) at l in
        let f = (rules_of t v).filled 0 h in
        rw (booking-at t 0 h) (record { order = f.order; range = f.range; some = f.some; few = f.few; sorted = omega arith })
    one (suc i) l =
        let h : suc i < t.len = rw (count t) at l in
        let k : i < t.len = omega arith in
        let f = (rules_of t v).filled (suc i) h in
        let e : get_or (starts (bookings t)) i 0 ≡ get_or t.starts i 0 = get_or-map (λ b. b.start) (bookings t) i none ∙ ap (λ (b : Booking). b.start) (booking-at t i k) in
        rw (booking-at t (suc i) h, e) (record { order = f.order; range = f.range; some = f.some; few = f.few; sorted = f.sorted })

-- booking keeps a diary that keeps the rules
pub booked-keeps : (t : ResourceTimeline) (b : Booking) → valid t ≡ true → t.len < 64 → InRange 0 b
    → valid (with_bookings t (insert_booking b (bookings t))) ≡ true
booked-keeps t b v l r =
    let k = rules_of t v in
    diary-keeps t.capacity t.calendar (insert_booking b (bookings t)) k.calendar k.some k.few (omega (arith, length_inserted (λ x. x.start) b (bookings t), count t)) (insert-order 0 b (bookings t) r (bookings-order t v))

-- a diary with one booking put in is the one with that booking, and keeps the rules
pub put_is : (t r : ResourceTimeline) (b : Booking) (at : ℕ) → PutIn t r b at → Long t → Long r → valid t ≡ true → t.len < 64 → InRange 0 b
    → (r ≡ with_bookings t (insert_booking b (bookings t))) × (valid r ≡ true)
put_is t r b at p g l v room k =
    let q = put-made t r b at p g l (rules_of t v) room in
    (q, ap valid q ∙ booked-keeps t b v room k)
