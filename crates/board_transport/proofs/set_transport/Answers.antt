-- `board_transport::set_transport` meets its contract.
use Rattle.std.proofs.Common.{sym, arith}
use Rattle.std.proofs.lemmas.Result.{err_from_is_err_and}
use Rattle.board.specs.Enter.{set_transport_reply}
use Rattle.board.specs.Laws.Replying.{refused_as, taken-by}
use Rattle.board_transport.proofs.Replying.{transport-places}
use Rattle.board_transport.proofs.set_transport.Goals as goal

pub returns-in_err-check_transport : goal.returns-in_err-check_transport
unfolding set_transport_reply
returns-in_err-check_transport c =
    let p = err_from_is_err_and c.from_residual.result c.from_residual.ensures.1 in
    rw (p.1, p.2) (refused_as _ _ _ _ c.in_err-check_transport.ensures)

pub bounds-b-from : goal.bounds-b-from
bounds-b-from c =
    let f = transport-places _ _ _ _ (sym c.in_ok-check_transport.ensures) in
    omega (arith, f.0, f.1)

pub returns : goal.returns
unfolding set_transport_reply
returns c = taken-by _ _ _ (sym c.in_ok-check_transport.ensures)
