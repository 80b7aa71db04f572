-- `record_queries::transport` meets its contract.
use Rattle.std.proofs.Common.{ap, ◌∙◌, Ok}
use Rattle.std.proofs.lemmas.Result.{err_from_is_err_and}
use Rattle.board.specs.Theorems.Meaning.{transport-is}
use Rattle.record_queries.specs.Replies.{Transport}
use Rattle.record_queries.specs.Asks.{transport_reply}
use Rattle.record_queries.proofs.Asking.{located, refused-ask, taken-ask}
use Rattle.record_queries.proofs.transport.Goals as goal

pub returns-in_err-entry_for : goal.returns-in_err-entry_for
unfolding transport_reply
returns-in_err-entry_for c =
    let p = err_from_is_err_and c.from_residual.result c.from_residual.ensures.1 in
    rw (p.1, p.2) (refused-ask (λ x. Transport x) _ _ _ _ c.in_err-entry_for.ensures.entry)

pub transport_between-requires : goal.transport_between-requires
transport_between-requires c = (located _ _ (Ok c.in_ok-entry_for.field-0) c.in_ok-entry_for.ensures.entry).low

pub returns : goal.returns
unfolding transport_reply
returns c =
    let q = located c.args.board c.args.to (Ok c.in_ok-entry_for.field-0) c.in_ok-entry_for.ensures.entry in
    taken-ask _ _ _ _ q.unrefused (ap Transport (c.transport_between.ensures ∙ transport-is c.args.board q.rules_kept c.args.origins c.args.to q.low))
