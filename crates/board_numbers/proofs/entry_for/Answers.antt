-- `board_numbers::entry_for` meets its contract.
use Rattle.std.proofs.Common.{sym, ◌∙◌}
use Rattle.std.proofs.lemmas.Result.{err_from_is_err_and}
use Rattle.board.specs.Laws.Knowing.{number-place}
use Rattle.board_rules.proofs.Refusing.{none_refused}
use Rattle.board_numbers.proofs.Finding.{entry-15, entry-none, entry-some}
use Rattle.board_numbers.proofs.Standing.{on-is}
use Rattle.board_numbers.proofs.entry_for.Goals as goal

pub returns-in_err-p-clause-entry : goal.returns-in_err-p-clause-entry
returns-in_err-p-clause-entry c =
    let p = err_from_is_err_and c.from_residual.result c.from_residual.ensures.1 in
    let r = none_refused _ _ _ _ c.places_of.ensures c.in_err-p.ensures.value in
    rw (p.1, p.2, r.0) (entry-15 _ _ r.1)

pub returns-then-not-is_on-clause-entry : goal.returns-then-not-is_on-clause-entry
returns-then-not-is_on-clause-entry c =
    let s = rw c.in_ok-p.ensures.ok_part at c.places_of.ensures in
    entry-none _ _ s.0 (sym (on-is _ _ c.in_ok-p.p.places s.0 s.1) ∙ sym c.is_on.ensures ∙ c.if-not-is_on.true)

pub returns-clause-entry : goal.returns-clause-entry
returns-clause-entry c =
    let s = rw c.in_ok-p.ensures.ok_part at c.places_of.ensures in
    let w = number-place _ s.0 c.in_ok-p.p.places s.1 c.args.number (sym (on-is _ _ c.in_ok-p.p.places s.0 s.1) ∙ sym c.is_on.ensures ∙ c.if-not-is_on.false) in
    entry-some _ _ _ s.0 w.1
