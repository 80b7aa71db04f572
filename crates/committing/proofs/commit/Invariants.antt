-- `committing::commit` meets its contract. The loop: booking the rows left makes the whole (Ahead).
use Rattle.committing.proofs.Ahead.{Left}
use Rattle.committing.proofs.commit.Given as goal

abbrev pub invariant-loop-row : goal.invariant-loop-row
invariant-loop-row l =
    Left (record { board = l.fn.b; slate = l.fn.slate; count = l.fn.count; start = l.fn.start; end = l.fn.end; category = l.fn.category }) l.p.places l.board l.row-index
