-- `board_resources::add_resource` meets its contract.
use Rattle.std.proofs.Common.{sym, arith}
use Rattle.std.proofs.lemmas.Result.{err_from_is_err_and}
use Rattle.board.specs.Enter.{with_new, add_resource_reply}
use Rattle.board.specs.Laws.Replying.{refused_as, taken-by}
use Rattle.board_resources.specs.Laws.Replying.{add-taken}
use Rattle.board_resources.proofs.add_resource.Goals as goal

pub returns-in_err-check_add : goal.returns-in_err-check_add
unfolding add_resource_reply
returns-in_err-check_add c =
    let p = err_from_is_err_and c.from_residual.result c.from_residual.ensures.1 in
    rw (p.1, p.2) (refused_as _ _ _ _ c.in_err-check_add.ensures)

pub companion_cells-requires : goal.companion_cells-requires
companion_cells-requires c = (add-taken _ _ _ _ (sym c.in_ok-check_add.ensures)).few

pub offset_bounds-b-board : goal.offset_bounds-b-board
offset_bounds-b-board c = record { fits = omega (arith, (add-taken _ _ _ _ (sym c.in_ok-check_add.ensures)).room) }

pub bounds-b-board : goal.bounds-b-board
bounds-b-board c = (add-taken _ _ _ _ (sym c.in_ok-check_add.ensures)).room

pub overflow_add-b : goal.overflow_add-b
overflow_add-b c = record { fits = omega (arith, (add-taken _ _ _ _ (sym c.in_ok-check_add.ensures)).room) }

pub returns : goal.returns
unfolding add_resource_reply with_new
returns c = rw (c.companion_cells.ensures, c.blank_resource.ensures) (taken-by _ _ _ (sym c.in_ok-check_add.ensures))
