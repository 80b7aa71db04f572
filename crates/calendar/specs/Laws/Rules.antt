-- The rules of a calendar as facts, from the test and back.
use Rattle.std.specs.Prelude.{◌≡◌, refl, Bool, true, false, ◌&&◌, cond, ℕ, ◌^◌, ◌≤◌, ◌<◌, get_or, leb, ltb, eqb}
use Rattle.std.proofs.Common.{⊎_elim, arith, leb-true, ltb-true, ltb-false, eqb-true, le-leb, lt-ltb, le-ltb, eq-eqb}
use Rattle.calendar.specs.declared.TimeWindows.{TimeWindows}
use Rattle.calendar.specs.declared.Calendar.{Calendar}
use Rattle.calendar.specs.Valid.{cell_right, cell_at, spans_right, valid}
use Rattle.cells.specs.Every.{every_from}
use Rattle.cells.specs.Laws.Every.{from_at, from_all}
use Rattle.cells.specs.Laws.Basics.{and_split, and-join, lt-or-ge}

-- cell i of a list of n spans
pub record Cell (i n s e : ℕ) : Type 0 where
  pub filled : i < n → (s < e) × (e ≤ 2 ^ 42)
  pub empty : n ≤ i → (s ≡ 0) × (e ≡ 0)

cell-facts : (i n s e : ℕ) → cell_right i n s e ≡ true → Cell i n s e
unfolding cell_right
cell-facts i n s e h = go (ltb i n) refl h
  where
    go : (b : Bool) → ltb i n ≡ b → cond b (ltb s e && leb e (2 ^ 42)) (eqb s 0 && eqb e 0) ≡ true → Cell i n s e
    go true q t =
        let a = and_split (ltb s e) (leb e (2 ^ 42)) t in
        let l = ltb-true i n q in
        record { filled = λ w. (ltb-true s e a.0, leb-true e (2 ^ 42) a.1); empty = λ w. absurd (omega arith) }
    go false q t =
        let a = and_split (eqb s 0) (eqb e 0) t in
        let l = ltb-false i n q in
        record { filled = λ w. absurd (omega arith); empty = λ w. (eqb-true s 0 a.0, eqb-true e 0 a.1) }

cell-right : (i n s e : ℕ) → Cell i n s e → cell_right i n s e ≡ true
unfolding cell_right
cell-right i n s e f =
    ⊎_elim
    (λ (l : i < n). simp (lt-ltb i n l, lt-ltb s e (f.filled l).0, le-leb e (2 ^ 42) (f.filled l).1))
    (λ (l : n ≤ i). simp (le-ltb i n l, eq-eqb s 0 (f.empty l).0, eq-eqb e 0 (f.empty l).1))
    (lt-or-ge i n)

-- what the rules say of a list of spans
pub record SpanRules (l : TimeWindows) : Type 0 where
  pub few : l.len ≤ 32
  pub cells : (j : ℕ) → j < 32 → Cell j l.len (get_or l.starts j 0) (get_or l.ends j 0)

pub right : (l : TimeWindows) → spans_right l ≡ true → SpanRules l
unfolding spans_right
right l h =
    let w = and_split (leb l.len 32) (every_from (cell_at l) 0 32) h in
    record { few = leb-true _ _ w.0; cells = λ j g. cell-facts j l.len _ _ (from_at (cell_at l) 0 32 w.1 j (omega arith) g) }

pub righted : (l : TimeWindows) → SpanRules l → spans_right l ≡ true
unfolding spans_right
righted l r = and-join _ _ (le-leb l.len 32 r.few) (from_all (cell_at l) 0 32 (λ j a b. cell-right j l.len _ _ (r.cells j b)))

-- each span begins before it ends, and ends at an instant
pub filled : (l : TimeWindows) → spans_right l ≡ true → (j : ℕ) → j < l.len → (get_or l.starts j 0 < get_or l.ends j 0) × (get_or l.ends j 0 ≤ 2 ^ 42)
filled l h j g = let r = right l h in (r.cells j (omega (arith, r.few))).filled g

pub windows-right : (c : Calendar) → valid c ≡ true → spans_right c.windows ≡ true
unfolding valid
windows-right c h = (and_split (spans_right c.windows) (spans_right c.blocks) h).0

pub blocks-right : (c : Calendar) → valid c ≡ true → spans_right c.blocks ≡ true
unfolding valid
blocks-right c h = (and_split (spans_right c.windows) (spans_right c.blocks) h).1
