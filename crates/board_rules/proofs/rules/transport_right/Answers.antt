use Rattle.std.proofs.Common.{sym, ◌∙◌, arith}
use Rattle.cells.specs.Laws.Every.{from-stop, from_more, from-done}
use Rattle.board_rules.proofs.rules.transport_right.Goals as goal

pub returns-then-not-transport_cell : goal.returns-then-not-transport_cell
returns-then-not-transport_cell c = from-stop _ c.loop-k.invariant (omega arith) (sym c.transport_cell.ensures ∙ c.if-not-transport_cell.true)

pub loop-k-preserved : goal.loop-k-preserved
loop-k-preserved c = from_more _ c.loop-k.invariant (omega arith) (sym c.transport_cell.ensures ∙ c.if-not-transport_cell.false)

pub returns : goal.returns
returns c = from-done _ c.loop-k.invariant (omega arith)
