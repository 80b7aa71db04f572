-- `commit_checks::numbers_right` meets its contract.
use borrow.Author.Tests.{tests}
use Rattle.std.specs.Prelude.{[]}
use Rattle.std.proofs.Common.{rules}
use Rattle.std.proofs.lemmas.Iterator.{YieldsList-from_slice}
use Rattle.cells.specs.Laws.Chains.{every_from_all}
use Rattle.commit_checks.specs.Lines.{numbered}
use Rattle.commit_checks.proofs.numbers_right.Goals as goal

pub returns : goal.returns
returns c =
    every_from_all _ _ _ (numbered c.args.places.now) [] c.all.ensures.ran (YieldsList-from_slice c.args.rows.now (cc)) (λ x q k. search (rules, tests)) (λ x q k. search (rules, tests))
