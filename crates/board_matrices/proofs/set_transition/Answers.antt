-- `board_matrices::set_transition` meets its contract.
use Rattle.std.specs.Prelude.{◌≡◌, false, ◌&&◌, leb, refl}
use Rattle.std.proofs.Common.{sym, ◌∙◌, arith, le-leb}
use Rattle.std.proofs.lemmas.Bool.{lt-leb}
use mir.Syntax.{w64}
use mir.ValLaws.{to_z-of_z}
use Rattle.std.proofs.lemmas.Result.{err_from_is_err_and}
use Rattle.board.specs.Enter.{set_transition_reply}
use Rattle.board_numbers.proofs.Finding.{entry_ok}
use Rattle.board_matrices.proofs.Replying.{entry_refused, category-refused, entry-wrong, transition-taken}
use Rattle.board_matrices.proofs.set_transition.Goals as goal
use Rattle.board_matrices.proofs.set_transition.Goals.{then-last-gt15-via-then-last-gt15, then-last-gt15-via-else-last-gt15+then-this-gt15}

pub returns-in_err-i : goal.returns-in_err-i
unfolding set_transition_reply
returns-in_err-i c =
    let p = err_from_is_err_and c.from_residual.result c.from_residual.ensures.1 in
    rw (p.1, p.2) (entry_refused _ _ _ _ _ _ c.in_err-i.ensures.entry)

pub returns-then-last-gt15 : goal.returns-then-last-gt15
unfolding set_transition_reply
returns-then-last-gt15 c =
    let e : leb c.args.last 15 && leb c.args.this 15 ≡ false =
    elim c.then-last-gt15.branch [
      | then-last-gt15-via-then-last-gt15 w ↦ rw (lt-leb _ _ w.if-last-gt15.true) refl
      | then-last-gt15-via-else-last-gt15+then-this-gt15 w ↦ rw (le-leb _ _ w.if-last-gt15.false, lt-leb _ _ w.if-this-gt15.true) refl
    ] in
    category-refused _ _ _ _ _ (entry_ok _ _ _ c.in_ok-i.ensures.entry).0 e

pub returns-then-not-entry_right : goal.returns-then-not-entry_right
unfolding set_transition_reply
returns-then-not-entry_right c =
    let back = to_z-of_z w64 c.args.ms c.ranges.ms in
    let f = entry_ok _ _ _ c.in_ok-i.ensures.entry in
    entry-wrong _ _ _ _ _ _ f.0 f.1 (rw (le-leb c.args.last 15 (omega arith), le-leb c.args.this 15 (omega arith)) refl) (sym (rw back at c.entry_right.ensures) ∙ c.if-not-entry_right.true)

pub returns : goal.returns
returns c =
    let back = to_z-of_z w64 c.args.ms c.ranges.ms in
    let f = entry_ok _ _ _ c.in_ok-i.ensures.entry in
    rw c.with_matrix.ensures (transition-taken _ _ _ _ _ f.0 f.1 (sym (rw back at c.entry_right.ensures) ∙ c.if-not-entry_right.false) _ _ (omega arith) (omega arith) (rw back at c.with_transition-m.ensures))
