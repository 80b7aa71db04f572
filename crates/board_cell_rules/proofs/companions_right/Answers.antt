use borrow.Author.Tests.{le-leb, lt-leb}
use Rattle.std.specs.Prelude.{refl}
use Rattle.std.proofs.Common.{sym, ◌∙◌, arith}
use Rattle.cells.specs.Laws.Every.{from-stop, from_more, from-done}
use Rattle.board.specs.Valid.{companions_right}
use Rattle.board_cell_rules.proofs.companions_right.Goals as goal

pub returns-then-n-gt4 : goal.returns-then-n-gt4
unfolding companions_right
returns-then-n-gt4 c = sym (rw (lt-leb c.args.n 4 c.if-n-gt4.true) refl)

pub loop-i-init : goal.loop-i-init
unfolding companions_right
loop-i-init c = rw (le-leb c.args.n 4 (omega arith)) refl

pub returns-then-not-companion_cell : goal.returns-then-not-companion_cell
returns-then-not-companion_cell c = from-stop _ c.loop-i.invariant (omega arith) (sym c.companion_cell.ensures ∙ c.if-not-companion_cell.true)

pub loop-i-preserved : goal.loop-i-preserved
loop-i-preserved c = from_more _ c.loop-i.invariant (omega arith) (sym c.companion_cell.ensures ∙ c.if-not-companion_cell.false)

pub returns : goal.returns
returns c = from-done _ c.loop-i.invariant (omega arith)
