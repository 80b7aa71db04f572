-- `board_resources::numbers_right` meets its contract.
use borrow.Author.Tests.{tests}
use Rattle.std.specs.Prelude.{ℕ, leb}
use Rattle.std.proofs.Common.{rules}
use Rattle.std.proofs.lemmas.Iterator.{YieldsList-from_slice}
use Rattle.cells.specs.Laws.Chains.{every_from_all}
use Rattle.board_resources.proofs.numbers_right.Goals as goal

pub returns : goal.returns
returns c =
    every_from_all _ _ _ (λ (companion : ℕ). leb companion 15) 0 c.all.ensures.ran (YieldsList-from_slice c.args.companions.now (cc)) (λ x q k. search (rules, tests)) (λ x q k. search (rules, tests))
