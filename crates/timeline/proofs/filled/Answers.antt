use mathlib.Core.Bool.{true, false}
use mathlib.Core.Path.{◌≡◌, refl, sym, ◌∙◌}
use Prim.Native.Nat.{◌-◌, ◌*◌, ◌≤◌}
use native.Mathlib.Nat.{sub-zero}
use native.Mathlib.Omega.{arith}
use lib.ListN.{get_or}
use Rattle.cells.specs.Laws.Every.{from-stop, from_more, from-done}
use Rattle.timeline.specs.Bookings.{booking_at, bookings_to, bookings, total}
use Rattle.cells.specs.Cells.{before}
use Rattle.cells.specs.Laws.Cells.{before-step}
use Rattle.timeline.specs.Valid.{filled_from}
use Rattle.timeline.specs.Laws.Rules.{cell-facts, CellFacts}
use Rattle.timeline.specs.Laws.Rows.{weight-le, total-snoc, rows_step}
use Rattle.timeline.proofs.filled.Goals as goal

-- what the rules say of the cell at hand
facts : (c : goal.Else-not-cell_right)
    → let t = c.args.t in
    let i = c.loop-i.i in
    CellFacts (get_or t.starts i 0) (get_or t.ends i 0) (get_or t.units i 0) (get_or t.latest i 0) c.loop-i.ps c.loop-i.pl
facts c = cell-facts _ _ _ _ _ _ (sym c.cell_right.ensures ∙ c.if-not-cell_right.false)

-- the cell's part of the total is small
small : (c : goal.Else-not-cell_right)
    → let t = c.args.t in
    let i = c.loop-i.i in
    (get_or t.ends i 0 - get_or t.starts i 0) * get_or t.units i 0 ≤ 43980465111040000
small c = weight-le _ _ _ (facts c).range (facts c).few

pub loop-i-init : goal.loop-i-init
unfolding before total bookings_to
loop-i-init c = (refl, refl, simp sub-zero, refl, omega arith)

pub returns-then-not-cell_right : goal.returns-then-not-cell_right
returns-then-not-cell_right c =
    let e = sym c.cell_right.ensures ∙ c.if-not-cell_right.true in
    let v = c.loop-i.invariant in
    let t = c.args.t in
    let f : false ≡ filled_from t 0 t.len = from-stop _ v.2 c.loop-i-test.true (rw (← v.0, ← v.1) e) in
    rw (← f) refl

pub overflow_sub-sum : goal.overflow_sub-sum
overflow_sub-sum c =
    let f = facts c in
    omega arith

pub overflow_mul-sum : goal.overflow_mul-sum
overflow_mul-sum c = omega (arith, small c)

pub overflow_add-sum : goal.overflow_add-sum
overflow_add-sum c = let v = c.loop-i.invariant in omega (arith, small c)

pub loop-i-preserved : goal.loop-i-preserved
loop-i-preserved c =
    let v = c.loop-i.invariant in
    let e = sym c.cell_right.ensures ∙ c.if-not-cell_right.false in
    let i = c.loop-i.i in
    let t = c.args.t in
    (before-step _ _, before-step _ _, from_more _ v.2 c.loop-i-test.true (rw (← v.0, ← v.1) e), cc (rows_step t.starts t.ends t.units i, total-snoc (bookings_to t.starts t.ends t.units i) (booking_at t.starts t.ends t.units i)), omega (arith, small c))

pub returns : goal.returns
returns c =
    let v = c.loop-i.invariant in
    let t = c.args.t in
    let f : c.loop-i.i ≡ t.len = omega arith in
    let g : true ≡ filled_from t 0 t.len = from-done _ v.2 (omega arith) in
    let h : c.loop-i.sum ≡ total (bookings t) = v.3 ∙ rw f refl in
    rw (← g, ← h) refl
