-- `board_diaries::timeline_of` meets its contract.
use Rattle.std.proofs.lemmas.Result.{err_from_is_err_and}
use Rattle.board_numbers.proofs.Finding.{entry_ok}
use Rattle.board_diaries.proofs.Replying.{looked_refused, looked-taken}
use Rattle.board_diaries.proofs.timeline_of.Goals as goal

pub returns-in_err-i : goal.returns-in_err-i
returns-in_err-i c =
    let p = err_from_is_err_and c.from_residual.result c.from_residual.ensures.1 in
    rw (p.1, p.2) (looked_refused _ _ _ c.in_err-i.ensures.entry)

pub returns : goal.returns
returns c =
    let f = entry_ok _ _ _ c.in_ok-i.ensures.entry in
    looked-taken _ _ _ f.0 f.1
