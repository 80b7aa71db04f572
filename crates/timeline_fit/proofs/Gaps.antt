-- Gaps at capacity 1 and with no calendar: a booking in the way shuts a start out, and none in the way leaves it free.
use mathlib.Core.Path.{◌≡◌, refl, sym}
use mathlib.Core.Bool.{true, false, ◌&&◌, and-false}
use mathlib.Core.List.{List, [], ◌∷◌}
use mathlib.Core.Logic.{◌⊎◌, inl, inr, ⊎_elim}
use Prim.Native.Nat.{ℕ, zero, suc, ◌+◌, ◌^◌, ◌≤◌, ◌<◌, max}
use native.Mathlib.Omega.{arith}
use lib.ListN.{get_or, length}
use borrow.Author.Count.{below_more}
use Rattle.calendar.specs.declared.Calendar.{Calendar}
use Rattle.cells.specs.Laws.Basics.{and-join, no_way, lt-or-ge}
use Rattle.calendar.specs.Search.{at}
use Rattle.calendar.specs.Fits.{fits}
use Rattle.calendar.specs.Theorems.Meaning.{fits-is}
use Rattle.timeline.specs.declared.ResourceTimeline.{ResourceTimeline}
use Rattle.timeline.specs.Bookings.{Booking, booking_at, bookings}
use Rattle.cells.specs.Cells.{before}
use Rattle.timeline.specs.Valid.{valid}
use Rattle.timeline.specs.Free.{on_at, tally, load}
use Rattle.timeline.specs.Earliest.{free_on, fits_at, earliest_fit}
use Rattle.timeline.specs.Laws.Rules.{DiaryRules, rules_of}
use Rattle.timeline.specs.Laws.Rows.{none, count, booking-at}
use Rattle.timeline.specs.Laws.Loading.{On, on, is-on, During, free-yes, free-no}
use Rattle.timeline.specs.Laws.Searching.{Sought}
use Rattle.timeline.specs.Laws.Columns.{columns, none-to}
use Rattle.timeline_fit.proofs.Fitting.{fit_found}

-- a booking that is on counts
load-ge : (bs : List Booking) (s e p k : ℕ) → k < length bs → On (get_or bs k none).start (get_or bs k none).end s e p → (get_or bs k none).units ≤ load bs s e p
unfolding load tally
load-ge [] s e p k l o = absurd (omega arith)
load-ge (b ∷ bs) s e p zero l o = rw (is-on b s e p o) (omega arith)
load-ge (b ∷ bs) s e p (suc k) l o = omega (arith, load-ge bs s e p k (omega arith) o)

-- capacity 1, no windows and no blocks
pub record Plain (t : ResourceTimeline) : Type 0 where
  pub keeps : valid t ≡ true
  pub one : t.capacity ≡ 1
  pub windows : t.calendar.windows.len ≡ 0
  pub blocks : t.calendar.blocks.len ≡ 0

always : (c : Calendar) (s e : ℕ) → c.windows.len ≡ 0 → c.blocks.len ≡ 0 → fits c s e ≡ true
always c s e a b = fits-is c s e (record { window = inl a; blocks = λ k l. absurd (omega arith) })

module _ (t : ResourceTimeline) (p : Plain t) (d : ℕ) where
  -- a booking in the way
  pub shut : (y k : ℕ) → k < t.len → get_or t.starts k 0 < y + d → y < get_or t.ends k 0 → fits_at t d 1 y ≡ false
  unfolding fits_at
  shut y k l a z =
      ⊎_elim
      (λ (h : y < get_or t.starts k 0). at-instant (get_or t.starts k 0) (inr (omega arith, a)) (record { starts = a; ends = z; from = omega arith; to = ((rules_of t p.keeps).filled k l).order }))
      (λ (h : get_or t.starts k 0 ≤ y). at-instant y (inl refl) (record { starts = a; ends = z; from = h; to = z }))
      (lt-or-ge y (get_or t.starts k 0))
    where
      at-instant : (q : ℕ) → During y (y + d) q → On (get_or t.starts k 0) (get_or t.ends k 0) y (y + d) q → fits t.calendar y (y + d) && free_on t 1 y (y + d) ≡ false
      at-instant q w o =
          let r = booking-at t k l in
          let g = load-ge (bookings t) y (y + d) q k (rw (count t) l) (rw r o) in
          let u : get_or t.units k 0 ≤ load (bookings t) y (y + d) q = rw r at g in
          rw (free-no t.capacity (bookings t) 1 y (y + d) q w (omega (arith, p.one, ((rules_of t p.keeps).filled k l).some))) (and-false (fits t.calendar y (y + d)))

  -- none in the way
  clear : (y : ℕ) → ((k : ℕ) → k < t.len → (get_or t.ends k 0 ≤ y) ⊎ (y + d ≤ get_or t.starts k 0)) → fits_at t d 1 y ≡ true
  unfolding fits_at load
  clear y f =
      and-join _ _ (always t.calendar y (y + d) p.windows p.blocks)
      (free-yes t.capacity (bookings t) 1 y (y + d)
      (record {
        few = omega (arith, p.one);
        fits = λ q w.
            omega (
              arith,
              p.one,
              none-to (λ b. on_at b y (y + d) q) t.starts t.ends t.units t.len
                  (λ k h. no_way _ (λ o.
                  let r = on (booking_at t.starts t.ends t.units k) y (y + d) q o in
                  ⊎_elim (λ (x : get_or t.ends k 0 ≤ y). omega (arith, r.ends)) (λ (x : y + d ≤ get_or t.starts k 0). omega (arith, r.starts)) (f k h))),
            );
      }))

-- a running latest end is one of the ends so far
latest-one : (t : ResourceTimeline) → DiaryRules t → (j : ℕ) → j < t.len → (k : ℕ) × (k ≤ j) × (get_or t.latest j 0 ≡ get_or t.ends k 0)
unfolding before
latest-one t rs zero l = (0, omega arith, omega (arith, (rs.filled 0 l).latest))
latest-one t rs (suc j) l =
    let f = rs.filled (suc j) l in
    let w = latest-one t rs j (omega arith) in
    ⊎_elim
    (λ (g : get_or t.latest j 0 < get_or t.ends (suc j) 0). (suc j, omega arith, omega (arith, f.latest)))
    (λ (g : get_or t.ends (suc j) 0 ≤ get_or t.latest j 0). (w.0, omega (arith, w.1), omega (arith, f.latest, w.2)))
    (lt-or-ge (get_or t.latest j 0) (get_or t.ends (suc j) 0))

-- the walk before booking i, with the start at hand
pub record Walk (t : ResourceTimeline) (from d i x : ℕ) : Type 0 where
  pub high : x ≤ 2 ^ 43
  pub past : (k : ℕ) → k < i → get_or t.ends k 0 ≤ x
  pub sought : Sought (fits_at t d 1) from x

pub walk_start : (t : ResourceTimeline) → Plain t → (from d i x : ℕ) → from ≤ 2 ^ 43 → i ≤ t.len → ((k : ℕ) → k < i → get_or t.starts k 0 < from) → x ≡ max from (before t.latest i) → Walk t from d i x
unfolding before
walk_start t p from d zero x h l f e = record {
  high = omega arith;
  past = λ k m. absurd (omega arith);
  sought = record { low = omega arith; none = λ y a z. absurd (omega arith) };
}
walk_start t p from d (suc j) x h l f e =
    let w = latest-one t (rules_of t p.keeps) j l in
    let c = columns t (rules_of t p.keeps) in
    let g : w.0 < t.len = omega (arith, w.1) in
    record {
      high = omega (arith, w.2, ((rules_of t p.keeps).filled w.0 g).range);
      past = λ k m. omega (arith, c.ends k (omega arith), c.latest k j (omega arith) l);
      sought = record { low = omega arith; none = λ y a z. shut t p d y w.0 g (omega (arith, f w.0 (omega (arith, w.1)))) (omega (arith, w.2)) };
    }

pub walk_step : (t : ResourceTimeline) → Plain t → (from d i x x' : ℕ) → Walk t from d i x → i < t.len → get_or t.starts i 0 < x + d → x' ≡ max x (get_or t.ends i 0) → Walk t from d (i + 1) x'
walk_step t p from d i x x' w l g e = record {
  high = omega (arith, w.high, ((rules_of t p.keeps).filled i l).range);
  past = below_more _ i (λ k m. omega (arith, w.past k m)) (omega arith);
  sought = record {
    low = omega (arith, w.sought.low);
    none = λ y a z.
        ⊎_elim
        (λ (h : y < x). w.sought.none y a h)
        (λ (h : x ≤ y). shut t p d y i l (omega arith) (omega arith))
        (lt-or-ge y x);
  };
}

pub walk_end : (t : ResourceTimeline) → Plain t → (from d i x : ℕ) → Walk t from d i x → t.len ≤ i → at x ≡ earliest_fit t from d 1
walk_end t p from d i x w l = sym (fit_found t p.keeps from d 1 x w.sought (clear t p d x (λ k h. inl (w.past k (omega arith)))))

-- the walk stops at a booking that begins at or after its end
pub walk-stop : (t : ResourceTimeline) → Plain t → (from d i x : ℕ) → Walk t from d i x → i < t.len → x + d ≤ get_or t.starts i 0 → at x ≡ earliest_fit t from d 1
walk-stop t p from d i x w l g =
    sym (fit_found t p.keeps from d 1 x w.sought
    (clear t p d x
    (λ k h.
    ⊎_elim
    (λ (m : k < i). inl (w.past k m))
    (λ (m : i ≤ k). inr (omega (arith, (columns t (rules_of t p.keeps)).starts i k m h)))
    (lt-or-ge k i))))

pub plain : (t : ResourceTimeline) → valid t ≡ true → (t.capacity ≡ 1) × (t.calendar.windows.len ≡ 0) × (t.calendar.blocks.len ≡ 0) → Plain t
plain t v h = record { keeps = v; one = h.0; windows = h.1; blocks = h.2 }
