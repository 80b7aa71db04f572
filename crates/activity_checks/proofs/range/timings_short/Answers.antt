-- `activity_checks::range::timings_short` meets its contract.
use borrow.Author.Tests.{tests}
use Rattle.std.proofs.Common.{rules}
use Rattle.std.proofs.lemmas.Iterator.{YieldsList-from_slice}
use Rattle.cells.specs.Laws.Chains.{every_from_all}
use Rattle.activity.specs.Durations.{untimed}
use Rattle.activity.specs.Check.{timing_short}
use Rattle.activity_checks.proofs.range.timings_short.Goals as goal

pub returns : goal.returns
returns c = every_from_all _ _ _ timing_short untimed c.all.ensures.ran (YieldsList-from_slice c.args.timings (cc)) (λ x q k. search (rules, tests)) (λ x q k. search (rules, tests))
