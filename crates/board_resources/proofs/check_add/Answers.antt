-- `board_resources::check_add` meets its contract.
use Rattle.std.proofs.Common.{sym, ◌∙◌, arith}
use Rattle.std.proofs.lemmas.Result.{err_from_is_err_and}
use Rattle.board_rules.proofs.Refusing.{none_refused}
use Rattle.board_numbers.proofs.Standing.{on-is}
use Rattle.board_resources.specs.Laws.Replying.{Passed, add-15, add-diary, add-number, add-companion, add-there, add-many, add-0}
use Rattle.board_resources.proofs.check_add.Goals as goal
use Rattle.board_resources.proofs.check_add.Goals.{then-number-gt15-via-then-number-gt15, then-number-gt15-via-else-number-gt15+then-not-numbers_right}
use Rattle.board_resources.proofs.check_add.Goals.{then-is_on-via-then-is_on, then-is_on-via-else-is_on+then-companions-gt4}

pub returns-in_err-p : goal.returns-in_err-p
returns-in_err-p c =
    let p = err_from_is_err_and c.from_residual.result c.from_residual.ensures.1 in
    let r = none_refused _ _ _ _ c.places_of.ensures c.in_err-p.ensures.value in
    rw (p.1, p.2, r.0) (add-15 _ _ _ _ r.1)

pub returns-then-not-is_valid : goal.returns-then-not-is_valid
returns-then-not-is_valid c = add-diary _ _ _ _ (rw c.in_ok-p.ensures.ok_part at c.places_of.ensures).0 (sym c.is_valid.ensures ∙ c.if-not-is_valid.true)

pub returns-then-number-gt15 : goal.returns-then-number-gt15
returns-then-number-gt15 c =
    let v = (rw c.in_ok-p.ensures.ok_part at c.places_of.ensures).0 in
    let w = sym c.is_valid.ensures ∙ c.if-not-is_valid.false in
    elim c.then-number-gt15.branch [
      | then-number-gt15-via-then-number-gt15 w' ↦ add-number _ _ _ _ v w (omega arith)
      | then-number-gt15-via-else-number-gt15+then-not-numbers_right w' ↦ add-companion _ _ _ _ v w (omega arith) (sym w'.numbers_right.ensures ∙ w'.if-not-numbers_right.true)
    ]

pub returns-then-is_on : goal.returns-then-is_on
returns-then-is_on c =
    let s = rw c.in_ok-p.ensures.ok_part at c.places_of.ensures in
    let p : Passed c.args.b c.args.number c.args.companions.now c.args.timeline = record {
      board = s.0;
      diary = sym c.is_valid.ensures ∙ c.if-not-is_valid.false;
      low = omega arith;
      each = sym c.numbers_right.ensures ∙ c.if-not-numbers_right.false;
    } in
    let o = sym (on-is _ c.args.number c.in_ok-p.p.places s.0 s.1) ∙ sym c.is_on.ensures in
    elim c.then-is_on.branch [
      | then-is_on-via-then-is_on w ↦ add-there _ _ _ _ p (o ∙ w.if-is_on.true)
      | then-is_on-via-else-is_on+then-companions-gt4 w ↦ add-many _ _ _ _ p (o ∙ w.if-is_on.false) (omega arith)
    ]

pub returns : goal.returns
returns c =
    let s = rw c.in_ok-p.ensures.ok_part at c.places_of.ensures in
    let p : Passed c.args.b c.args.number c.args.companions.now c.args.timeline = record {
      board = s.0;
      diary = sym c.is_valid.ensures ∙ c.if-not-is_valid.false;
      low = omega arith;
      each = sym c.numbers_right.ensures ∙ c.if-not-numbers_right.false;
    } in
    add-0 _ _ _ _ p (sym (on-is _ c.args.number c.in_ok-p.p.places s.0 s.1) ∙ sym c.is_on.ensures ∙ c.if-is_on.false) (omega arith)
