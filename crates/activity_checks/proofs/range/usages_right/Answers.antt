-- `activity_checks::range::usages_right` meets its contract.
use borrow.Author.Tests.{tests}
use Rattle.std.specs.Prelude.{take}
use Rattle.std.proofs.Common.{rules}
use Rattle.std.proofs.lemmas.Iterator.{YieldsList-from_slice}
use Rattle.cells.specs.Laws.Chains.{every_from_all}
use Rattle.activity.specs.Check.{usage_right, no_requirement}
use Rattle.activity_checks.proofs.range.usages_right.Goals as goal

pub returns : goal.returns
unfolding usage_right
returns c =
    every_from_all _ _ _ usage_right no_requirement c.all.ensures.ran (YieldsList-from_slice (take c.args.len c.args.requirements) (cc)) (λ x q k. search (rules, tests)) (λ x q k. search (rules, tests))
