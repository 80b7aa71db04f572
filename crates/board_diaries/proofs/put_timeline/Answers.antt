-- `board_diaries::put_timeline` meets its contract.
use Rattle.std.proofs.Common.{sym, ◌∙◌}
use Rattle.std.proofs.lemmas.Result.{err_from_is_err_and}
use Rattle.board_numbers.proofs.Finding.{entry_ok}
use Rattle.board_diaries.proofs.Replying.{put_wrong, put_refused, put-taken}
use Rattle.board_diaries.proofs.put_timeline.Goals as goal

pub returns-then-not-is_valid : goal.returns-then-not-is_valid
returns-then-not-is_valid c = put_wrong _ _ _ (sym c.is_valid.ensures ∙ c.if-not-is_valid.true)

pub returns-in_err-place : goal.returns-in_err-place
returns-in_err-place c =
    let p = err_from_is_err_and c.from_residual.result c.from_residual.ensures.1 in
    rw (p.1, p.2) (put_refused _ _ _ _ (sym c.is_valid.ensures ∙ c.if-not-is_valid.false) c.in_err-place.ensures.entry)

pub returns : goal.returns
returns c =
    let f = entry_ok _ _ _ c.in_ok-place.ensures.entry in
    put-taken _ _ _ _ (sym c.is_valid.ensures ∙ c.if-not-is_valid.false) f.0 f.1
