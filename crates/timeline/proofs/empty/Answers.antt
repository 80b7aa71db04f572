use mathlib.Core.Path.{refl, sym, ◌∙◌}
use native.Mathlib.Omega.{arith}
use Rattle.cells.specs.Laws.Every.{from-stop, from_more, from-done}
use Rattle.timeline.proofs.empty.Goals as goal

pub loop-i-init : goal.loop-i-init
loop-i-init c = (c.requires, refl)

pub returns-then-not-cell_empty : goal.returns-then-not-cell_empty
returns-then-not-cell_empty c =
    let e = sym c.cell_empty.ensures ∙ c.if-not-cell_empty.true in
    from-stop _ c.loop-i.invariant.1 c.loop-i-test.true e

pub loop-i-preserved : goal.loop-i-preserved
loop-i-preserved c =
    let e = sym c.cell_empty.ensures ∙ c.if-not-cell_empty.false in
    (omega arith, from_more _ c.loop-i.invariant.1 c.loop-i-test.true e)

pub returns : goal.returns
returns c = from-done _ c.loop-i.invariant.1 (omega arith)
