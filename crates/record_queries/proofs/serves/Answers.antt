-- `record_queries::serves` meets its contract.
use Rattle.std.proofs.Common.{Bool, cond, refl, Ok}
use Rattle.std.proofs.lemmas.Result.{err_from_is_err_and}
use Rattle.board.specs.Places.{place_of}
use Rattle.record_queries.specs.Replies.{Serves, No}
use Rattle.record_queries.specs.Asks.{serves_reply}
use Rattle.record_queries.proofs.Asking.{located, refused-ask, taken-ask}
use Rattle.record_queries.proofs.serves.Goals as goal

pub returns-in_err-i : goal.returns-in_err-i
unfolding serves_reply
returns-in_err-i c =
    let p = err_from_is_err_and c.from_residual.result c.from_residual.ensures.1 in
    rw (p.1, p.2) (refused-ask {T = Bool} (λ yes. cond yes Serves No) _ _ _ _ c.in_err-i.ensures.entry)

pub serves-requires : goal.serves-requires
serves-requires c = (located _ _ (Ok c.in_ok-i.i) c.in_ok-i.ensures.entry).low

pub returns : goal.returns
unfolding serves_reply place_of
returns c =
    let q = located c.args.board c.args.number (Ok c.in_ok-i.i) c.in_ok-i.ensures.entry in
    taken-ask _ _ _ _ q.unrefused (rw (q.stands, c.serves.ensures) refl)
