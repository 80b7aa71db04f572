-- `board_matrices::set_initial` meets its contract.
use Rattle.std.proofs.Common.{sym, ◌∙◌, arith, le-leb}
use Rattle.std.proofs.lemmas.Bool.{lt-leb}
use mir.Syntax.{w64}
use mir.ValLaws.{to_z-of_z}
use Rattle.std.proofs.lemmas.Result.{err_from_is_err_and}
use Rattle.board.specs.Enter.{set_initial_reply}
use Rattle.board_numbers.proofs.Finding.{entry_ok}
use Rattle.board_matrices.proofs.Replying.{entry_refused, category-refused, entry-wrong, initial-taken}
use Rattle.board_matrices.proofs.set_initial.Goals as goal

pub returns-in_err-i : goal.returns-in_err-i
unfolding set_initial_reply
returns-in_err-i c =
    let p = err_from_is_err_and c.from_residual.result c.from_residual.ensures.1 in
    rw (p.1, p.2) (entry_refused _ _ _ _ _ _ c.in_err-i.ensures.entry)

pub returns-then-category-gt15 : goal.returns-then-category-gt15
unfolding set_initial_reply
returns-then-category-gt15 c = category-refused _ _ _ _ _ (entry_ok _ _ _ c.in_ok-i.ensures.entry).0 (lt-leb _ _ c.if-category-gt15.true)

pub returns-then-not-entry_right : goal.returns-then-not-entry_right
unfolding set_initial_reply
returns-then-not-entry_right c =
    let back = to_z-of_z w64 c.args.ms c.ranges.ms in
    let f = entry_ok _ _ _ c.in_ok-i.ensures.entry in
    entry-wrong _ _ _ _ _ _ f.0 f.1 (le-leb _ _ c.if-category-gt15.false) (sym (rw back at c.entry_right.ensures) ∙ c.if-not-entry_right.true)

pub returns : goal.returns
returns c =
    let back = to_z-of_z w64 c.args.ms c.ranges.ms in
    let f = entry_ok _ _ _ c.in_ok-i.ensures.entry in
    rw c.with_matrix.ensures (initial-taken _ _ _ _ _ f.0 f.1 (sym (rw back at c.entry_right.ensures) ∙ c.if-not-entry_right.false) _ (omega arith) (rw back at c.with_initial-m.ensures))
