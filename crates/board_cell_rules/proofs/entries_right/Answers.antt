-- `board_cell_rules::entries_right` meets its contract.
use borrow.Author.Tests.{tests}
use Rattle.std.specs.Prelude.{pos}
use Rattle.std.proofs.Common.{rules}
use Rattle.std.proofs.lemmas.Iterator.{YieldsList-from_slice}
use Rattle.cells.specs.Laws.Chains.{indexes_from_all}
use Rattle.board.specs.Valid.{entry_right, is_zero}
use Rattle.board_cell_rules.proofs.entries_right.Goals as goal

pub returns-then-present : goal.returns-then-present
returns-then-present c =
    rw c.if-present.true
    (indexes_from_all _ _ _ entry_right (pos 0) c.all.ensures.ran (YieldsList-from_slice c.args.entries.now (cc)) (λ x q k. search (rules, tests)) (λ x q k. search (rules, tests)))

pub returns-else-present : goal.returns-else-present
returns-else-present c =
    rw c.if-present.false
    (indexes_from_all _ _ _ is_zero (pos 0) c.all-else-present.ensures.ran (YieldsList-from_slice c.args.entries.now (cc)) (λ x q k. search (rules, tests)) (λ x q k. search (rules, tests)))
