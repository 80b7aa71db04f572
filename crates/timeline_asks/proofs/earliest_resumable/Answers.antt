-- `timeline_asks::earliest_resumable` meets its contract.
use Rattle.std.proofs.Common.{rules, ◌≡◌, sym, ap, ◌∙◌, refl, Err}
use Rattle.calendar.specs.Laws.Refusals.{numbered}
use Rattle.timeline_asks.specs.Answers.{reply_of}
use Rattle.timeline_asks.proofs.Replies.{asked-15, asked-refused, asked-reply, lawful}
use Rattle.timeline_asks.proofs.earliest_resumable.Goals as goal

pub returns-then-not-is_valid : goal.returns-then-not-is_valid
returns-then-not-is_valid c = asked-15 _ _ _ _ _ (sym c.is_valid.ensures ∙ c.if-not-is_valid.true)

pub returns-in_err-check_ask : goal.returns-in_err-check_ask
returns-in_err-check_ask c =
    let r : c.from_residual.result ≡ Err c.in_err-check_ask.field-0.0 = search rules in
    ap reply_of r ∙ asked-refused _ _ _ _ _ _ (sym c.is_valid.ensures ∙ c.if-not-is_valid.false) c.in_err-check_ask.ensures (numbered _)

pub earliest_resumable-requires : goal.earliest_resumable-requires
earliest_resumable-requires c =
    let l = lawful _ _ _ (sym c.in_ok-check_ask.ensures) in
    (sym c.is_valid.ensures ∙ c.if-not-is_valid.false, l.from_range, l.span_range)

pub returns-in-Some : goal.returns-in-Some
returns-in-Some c =
    let v = sym c.is_valid.ensures ∙ c.if-not-is_valid.false in
    c.in-Some.ensures ∙ asked-reply _ _ _ _ _ 0 v c.in_ok-check_ask.ensures refl

pub returns-in-None : goal.returns-in-None
returns-in-None c =
    let v = sym c.is_valid.ensures ∙ c.if-not-is_valid.false in
    c.in-None.ensures ∙ asked-reply _ _ _ _ _ 0 v c.in_ok-check_ask.ensures refl
