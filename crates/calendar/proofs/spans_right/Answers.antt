use borrow.Author.Tests.{le-leb, lt-leb}
use mathlib.Core.Path.{refl, sym, ◌∙◌}
use native.Mathlib.Omega.{arith}
use Rattle.calendar.specs.Valid.{spans_right}
use Rattle.cells.specs.Laws.Every.{from-stop, from_more, from-done}
use Rattle.calendar.proofs.spans_right.Goals as goal

pub returns-then-n-gt32 : goal.returns-then-n-gt32
unfolding spans_right
returns-then-n-gt32 c = rw (lt-leb _ _ c.if-n-gt32.true) refl

pub loop-i-init : goal.loop-i-init
unfolding spans_right
loop-i-init c = (refl, omega arith, omega arith, rw (le-leb _ _ c.if-n-gt32.false) refl)

pub returns-then-not-cell_right : goal.returns-then-not-cell_right
returns-then-not-cell_right c =
    let e = sym c.cell_right.ensures ∙ c.if-not-cell_right.true in
    let v = c.loop-i.invariant in
    from-stop _ v.3 c.loop-i-test.true e

pub loop-i-preserved : goal.loop-i-preserved
loop-i-preserved c =
    let e = sym c.cell_right.ensures ∙ c.if-not-cell_right.false in
    let v = c.loop-i.invariant in
    (refl, omega arith, omega arith, from_more _ v.3 c.loop-i-test.true e)

pub returns : goal.returns
returns c = from-done _ c.loop-i.invariant.3 (omega arith)
