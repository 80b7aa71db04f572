-- `board_matrices::set_matrix` meets its contract.
use Rattle.std.specs.Prelude.{◌≡◌, false, ◌&&◌, refl}
use Rattle.std.proofs.Common.{sym, ◌∙◌}
use mir.Syntax.{w64}
use mir.ValLaws.{to_z-of_z}
use Rattle.std.proofs.lemmas.Result.{err_from_is_err_and}
use Rattle.board.specs.Valid.{duration_right}
use Rattle.board_numbers.proofs.Finding.{entry_ok}
use Rattle.board_matrices.proofs.Replying.{matrix_refused, matrix-wrong, matrix-taken}
use Rattle.board_matrices.proofs.set_matrix.Goals as goal
use Rattle.board_matrices.proofs.set_matrix.Goals.{then-not-duration_right-via-then-not-duration_right, then-not-duration_right-via-else-not-duration_right+then-not-duration_right-2}

pub returns-in_err-i : goal.returns-in_err-i
returns-in_err-i c =
    let p = err_from_is_err_and c.from_residual.result c.from_residual.ensures.1 in
    rw (p.1, p.2) (matrix_refused _ _ _ _ _ c.in_err-i.ensures.entry)

pub returns-then-not-duration_right : goal.returns-then-not-duration_right
returns-then-not-duration_right c =
    let back = to_z-of_z w64 c.args.default c.ranges.default in
    let back2 = to_z-of_z w64 c.args.initial c.ranges.initial in
    let e : duration_right c.args.default && duration_right c.args.initial ≡ false =
    elim c.then-not-duration_right.branch [
      | then-not-duration_right-via-then-not-duration_right w ↦ rw (sym (rw back at c.duration_right.ensures) ∙ w.if-not-duration_right.true) refl
      | then-not-duration_right-via-else-not-duration_right+then-not-duration_right-2 w ↦
          rw (
            sym (rw back at c.duration_right.ensures) ∙ w.if-not-duration_right.false,
            sym (rw back2 at w.duration_right-else-not-duration_right.ensures) ∙ w.if-not-duration_right-2.true,
          ) refl
    ] in
    let f = entry_ok _ _ _ c.in_ok-i.ensures.entry in
    matrix-wrong _ _ _ _ _ f.0 f.1 e

pub returns : goal.returns
returns c =
    let back = to_z-of_z w64 c.args.default c.ranges.default in
    let back2 = to_z-of_z w64 c.args.initial c.ranges.initial in
    let f = entry_ok _ _ _ c.in_ok-i.ensures.entry in
    let p = sym (rw back at c.duration_right.ensures) ∙ c.if-not-duration_right.false in
    let q = sym (rw back2 at c.duration_right-else-not-duration_right.ensures) ∙ c.if-not-duration_right-2.false in
    rw c.with_matrix.ensures (matrix-taken _ _ _ _ _ _ f.0 f.1 p q (rw (back, back2) at c.new_matrix.ensures))
