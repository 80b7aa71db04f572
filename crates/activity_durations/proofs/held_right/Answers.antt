-- `activity_durations::held_right` meets its contract.
use borrow.Author.Tests.{tests}
use Rattle.std.specs.Prelude.{ℕ, leb, take, refl}
use Rattle.std.proofs.Common.{rules, sym, ◌∙◌, le-leb}
use Rattle.std.proofs.lemmas.Iterator.{YieldsList-from_slice}
use Rattle.cells.specs.Laws.Chains.{every_from_all}
use Rattle.activity.specs.Check.{held_right}
use Rattle.activity_durations.proofs.held_right.Goals as goal

pub returns-then-count-le8 : goal.returns-then-count-le8
unfolding held_right
returns-then-count-le8 c =
    every_from_all _ _ _ (λ (n : ℕ). leb n 15) 0 c.all.ensures.ran (YieldsList-from_slice (take c.args.count c.args.held) (cc)) (λ x q k. search (rules, tests)) (λ x q k. search (rules, tests))
    ∙ sym (rw (le-leb c.args.count 8 c.if-count-le8.true) refl)
