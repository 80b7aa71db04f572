-- `commit_checks::room_right` meets its contract.
use borrow.Author.Tests.{tests}
use Rattle.std.specs.Prelude.{◌≡◌, true, []}
use Rattle.std.proofs.Common.{rules}
use Rattle.std.proofs.lemmas.Iterator.{YieldsList-from_slice}
use Rattle.std.proofs.lemmas.Iterator.Adapters.{serves_from_places}
use Rattle.cells.specs.Laws.Every.{every_in}
use Rattle.cells.specs.Laws.Chains.{every_from_all}
use Rattle.commit_checks.specs.Lines.{numbered, roomy}
use Rattle.commit_checks.proofs.room_right.Goals as goal

pub all-requires-clause-callable : goal.all-requires-clause-callable
all-requires-clause-callable c =
    serves_from_places (YieldsList-from_slice c.args.rows.now (cc)) (λ x q k. search (rules, tests))
    (λ x k l e. let h = every_in (numbered c.args.p.now.places) c.args.rows.now k x.now l c.requires in let z : numbered c.args.p.now.places x.now ≡ true = rw (← e) at h in search (rules, tests))

pub returns : goal.returns
returns c =
    every_from_all _ _ _ (roomy c.args.p.now.places c.args.p.now.lens c.args.tally.now) [] c.all.ensures.ran (YieldsList-from_slice c.args.rows.now (cc)) (λ x q k. search (rules, tests)) (λ x q k. search (rules, tests))
