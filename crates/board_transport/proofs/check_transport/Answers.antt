-- `board_transport::check_transport` meets its contract.
use Rattle.std.proofs.Common.{sym, ◌∙◌, arith}
use Rattle.std.proofs.lemmas.Result.{err_from_is_err_and}
use Rattle.board_rules.proofs.Refusing.{none_refused}
use Rattle.board_numbers.proofs.Standing.{on-is}
use Rattle.board_transport.proofs.Replying.{transport-15, transport-from, transport-to, transport-1, transport-0}
use Rattle.board_transport.proofs.check_transport.Goals as goal
use Rattle.board_transport.proofs.check_transport.Goals.{then-not-is_on-via-then-not-is_on, then-not-is_on-via-else-not-is_on+then-not-is_on-2}

pub returns-in_err-p : goal.returns-in_err-p
returns-in_err-p c =
    let p = err_from_is_err_and c.from_residual.result c.from_residual.ensures.1 in
    let r = none_refused _ _ _ _ c.places_of.ensures c.in_err-p.ensures.value in
    rw (p.1, p.2, r.0) (transport-15 _ _ _ _ r.1)

pub returns-then-not-is_on : goal.returns-then-not-is_on
returns-then-not-is_on c =
    let a = c.args in
    let s = rw c.in_ok-p.ensures.ok_part at c.places_of.ensures in
    elim c.then-not-is_on.branch [
      | then-not-is_on-via-then-not-is_on w ↦ transport-from _ _ _ _ s.0 (sym (on-is a.b a.from c.in_ok-p.p.places s.0 s.1) ∙ sym c.is_on.ensures ∙ w.if-not-is_on.true)
      | then-not-is_on-via-else-not-is_on+then-not-is_on-2 w ↦
          transport-to _ _ _ _ s.0 (sym (on-is a.b a.to c.in_ok-p.p.places s.0 s.1) ∙ sym w.is_on-else-not-is_on.ensures ∙ w.if-not-is_on-2.true)
    ]

pub returns-then-ms-gt-LONGEST_DURATION : goal.returns-then-ms-gt-LONGEST_DURATION
returns-then-ms-gt-LONGEST_DURATION c =
    let a = c.args in
    let s = rw c.in_ok-p.ensures.ok_part at c.places_of.ensures in
    let f = sym (on-is a.b a.from c.in_ok-p.p.places s.0 s.1) ∙ sym c.is_on.ensures ∙ c.if-not-is_on.false in
    let g = sym (on-is a.b a.to c.in_ok-p.p.places s.0 s.1) ∙ sym c.is_on-else-not-is_on.ensures ∙ c.if-not-is_on-2.false in
    transport-1 _ _ _ _ s.0 f g (omega arith)

pub returns : goal.returns
returns c =
    let a = c.args in
    let s = rw c.in_ok-p.ensures.ok_part at c.places_of.ensures in
    let f = sym (on-is a.b a.from c.in_ok-p.p.places s.0 s.1) ∙ sym c.is_on.ensures ∙ c.if-not-is_on.false in
    let g = sym (on-is a.b a.to c.in_ok-p.p.places s.0 s.1) ∙ sym c.is_on-else-not-is_on.ensures ∙ c.if-not-is_on-2.false in
    transport-0 _ _ _ _ s.0 f g (omega arith)
