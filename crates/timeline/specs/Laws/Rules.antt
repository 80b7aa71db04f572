-- The rules of a diary as facts, from the test and back.
use Rattle.std.specs.Prelude.{◌≡◌, true, ℕ, ◌-◌, ◌^◌, ◌≤◌, ◌<◌, max, get_or}
use Rattle.std.proofs.Common.{arith, leb-true, ltb-true, eqb-true, le-leb, lt-ltb, eq-eqb}
use Rattle.calendar.specs.declared.Calendar.{Calendar}
use Rattle.calendar.specs.Replies.{Added}
use Rattle.calendar.specs.Valid as calendar
use Rattle.cells.specs.Laws.Basics.{and_split}
use Rattle.cells.specs.Laws.Every.{from_at, from_all}
use Rattle.timeline.specs.declared.ResourceTimeline.{ResourceTimeline}
use Rattle.timeline.specs.Bookings.{bookings, total}
use Rattle.cells.specs.Cells.{before}
use Rattle.timeline.specs.Valid.{cell_right, cell_empty, filled_at, empty_at, filled_from, empty_from, contents_right, valid}
use Rattle.timeline.specs.Diary.{with_calendar}
use Rattle.timeline.specs.Book.{calendar_reply}

-- a filled cell
pub record CellFacts (s e u l ps pl : ℕ) : Type 0 where
  pub order : s < e
  pub range : e ≤ 2 ^ 42
  pub some : 1 ≤ u
  pub few : u ≤ 10000
  pub sorted : ps ≤ s
  pub latest : l ≡ max pl e

pub cell-facts : (s e u l ps pl : ℕ) → cell_right s e u l ps pl ≡ true → CellFacts s e u l ps pl
unfolding cell_right
cell-facts s e u l ps pl h =
    let h1 = and_split _ _ h in
    let h2 = and_split _ _ h1.1 in
    let h3 = and_split _ _ h2.1 in
    let h4 = and_split _ _ h3.1 in
    let h5 = and_split _ _ h4.1 in
    record {
      order = ltb-true _ _ h1.0;
      range = leb-true _ _ h2.0;
      some = leb-true _ _ h3.0;
      few = leb-true _ _ h4.0;
      sorted = leb-true _ _ h5.0;
      latest = eqb-true _ _ h5.1;
    }

cell-right : (s e u l ps pl : ℕ) → CellFacts s e u l ps pl → cell_right s e u l ps pl ≡ true
unfolding cell_right
cell-right s e u l ps pl f =
    simp (lt-ltb _ _ f.order, le-leb _ _ f.range, le-leb _ _ f.some, le-leb _ _ f.few, le-leb _ _ f.sorted, eq-eqb _ _ f.latest)

abbrev CellOf : ResourceTimeline → ℕ → Type 0
CellOf t i =
    CellFacts (get_or t.starts i 0) (get_or t.ends i 0) (get_or t.units i 0) (get_or t.latest i 0)
    (before t.starts i)
    (before t.latest i)

-- an empty cell
pub record EmptyFacts (s e u l : ℕ) : Type 0 where
  pub starts0 : s ≡ 0
  pub ends0 : e ≡ 0
  pub units0 : u ≡ 0
  pub latest0 : l ≡ 0

abbrev EmptyOf : ResourceTimeline → ℕ → Type 0
EmptyOf t i = EmptyFacts (get_or t.starts i 0) (get_or t.ends i 0) (get_or t.units i 0) (get_or t.latest i 0)

empty-facts : (s e u l : ℕ) → cell_empty s e u l ≡ true → EmptyFacts s e u l
unfolding cell_empty
empty-facts s e u l h =
    let h1 = and_split _ _ h in
    let h2 = and_split _ _ h1.1 in
    let h3 = and_split _ _ h2.1 in
    record {
      starts0 = eqb-true _ _ h1.0;
      ends0 = eqb-true _ _ h2.0;
      units0 = eqb-true _ _ h3.0;
      latest0 = eqb-true _ _ h3.1;
    }

cell-empty : (s e u l : ℕ) → EmptyFacts s e u l → cell_empty s e u l ≡ true
unfolding cell_empty
cell-empty s e u l f = simp (eq-eqb _ _ f.starts0, eq-eqb _ _ f.ends0, eq-eqb _ _ f.units0, eq-eqb _ _ f.latest0)

pub record DiaryRules (t : ResourceTimeline) : Type 0 where
  pub calendar : calendar.valid t.calendar ≡ true
  pub some : 1 ≤ t.capacity
  pub few : t.capacity < 2 ^ 31
  pub room : t.len ≤ 64
  pub filled : (i : ℕ) → i < t.len → CellOf t i
  pub empty : (i : ℕ) → t.len ≤ i → i < 64 → EmptyOf t i
  pub sum : t.booked ≡ total (bookings t)

filled-cells : (t : ResourceTimeline) → filled_from t 0 t.len ≡ true → (i : ℕ) → i < t.len → CellOf t i
filled-cells t f i l = cell-facts _ _ _ _ _ _ (from_at (filled_at t) 0 t.len f i (omega arith) (omega arith))

empty-cells : (t : ResourceTimeline) → empty_from t t.len (64 - t.len) ≡ true → (i : ℕ) → t.len ≤ i → i < 64 → EmptyOf t i
empty-cells t f i g l = empty-facts _ _ _ _ (from_at (empty_at t) t.len (64 - t.len) f i g (omega arith))

pub rules_of : (t : ResourceTimeline) → valid t ≡ true → DiaryRules t
unfolding valid contents_right
rules_of t h =
    let h0 = and_split _ _ h in
    let h1 = and_split _ _ h0.1 in
    let h2 = and_split _ _ h1.1 in
    let h3 = and_split _ _ h2.1 in
    let h4 = and_split _ _ h3.1 in
    let h5 = and_split _ _ h4.1 in
    record {
      calendar = h2.0;
      some = leb-true _ _ h0.0;
      few = ltb-true _ _ h1.0;
      room = leb-true _ _ h3.0;
      filled = filled-cells t h4.0;
      empty = empty-cells t h5.0;
      sum = eqb-true _ _ h5.1;
    }

pub ruled : (t : ResourceTimeline) → DiaryRules t → valid t ≡ true
unfolding valid contents_right
ruled t r =
    let f : filled_from t 0 t.len ≡ true = from_all (filled_at t) 0 t.len (λ j h l. cell-right _ _ _ _ _ _ (r.filled j (omega arith))) in
    let e : empty_from t t.len (64 - t.len) ≡ true =
    from_all (empty_at t) t.len (64 - t.len) (λ j h l. cell-empty _ _ _ _ (r.empty j h (omega (arith, r.room)))) in
    simp (le-leb _ _ r.some, lt-ltb _ _ r.few, r.calendar, le-leb _ _ r.room, f, e, eq-eqb _ _ r.sum)

-- the same diary with another calendar that keeps the rules
pub recalendared : (t : ResourceTimeline) (c : Calendar) → valid t ≡ true → calendar.valid c ≡ true → valid (with_calendar t c) ≡ true
unfolding with_calendar
recalendared t c h k =
    let r = rules_of t h in
    ruled _ (record { calendar = k; some = r.some; few = r.few; room = r.room; filled = r.filled; empty = r.empty; sum = r.sum })

-- a window or a block on the calendar of a diary that keeps the rules
pub calendar-reply : (t : ResourceTimeline) (r a : Added) → valid t ≡ true → r ≡ a
    → record { refusal = r.refusal; timeline = with_calendar t r.calendar } ≡ calendar_reply t a
unfolding calendar_reply
calendar-reply t r a v e = rw e (simp v)
