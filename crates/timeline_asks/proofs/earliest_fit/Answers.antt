-- `timeline_asks::earliest_fit` meets its contract.
use Rattle.std.proofs.Common.{rules, ◌≡◌, sym, ap, ◌∙◌, refl, arith, Err}
use Rattle.calendar.specs.Laws.Refusals.{numbered}
use Rattle.timeline_asks.specs.Answers.{reply_of}
use Rattle.timeline_asks.proofs.Replies.{Asked, asked-15, asked-refused, asked-reply, lawful, fit-range, unbroken-at, unbroken-none}
use Rattle.timeline_asks.proofs.earliest_fit.Goals as goal

-- what is asked is lawful
lawfully : (c : goal.In_ok-check_ask) → Asked c.args.from c.args.span c.args.units
lawfully c = lawful _ _ _ (sym c.in_ok-check_ask.ensures)

pub returns-then-not-is_valid : goal.returns-then-not-is_valid
returns-then-not-is_valid c = asked-15 _ _ _ _ _ (sym c.is_valid.ensures ∙ c.if-not-is_valid.true)

pub returns-in_err-check_ask : goal.returns-in_err-check_ask
returns-in_err-check_ask c =
    let r : c.from_residual.result ≡ Err c.in_err-check_ask.field-0.0 = search rules in
    ap reply_of r ∙ asked-refused _ _ _ _ _ _ (sym c.is_valid.ensures ∙ c.if-not-is_valid.false) c.in_err-check_ask.ensures (numbered _)

pub earliest_fit-requires : goal.earliest_fit-requires
earliest_fit-requires c =
    let l = lawfully c in
    record { t_value = (sym c.is_valid.ensures ∙ c.if-not-is_valid.false, l.from_range, l.span_range); le_units = l.some }

pub overflow_add-result : goal.overflow_add-result
overflow_add-result c =
    let l = lawful _ _ _ (sym c.in_ok-check_ask.ensures) in
    let r = fit-range _ (sym c.is_valid.ensures ∙ c.if-not-is_valid.false) _ _ _ _ l.from_range (sym c.in-Some.ensures) in
    omega arith

pub returns-in-Some : goal.returns-in-Some
returns-in-Some c =
    let v = sym c.is_valid.ensures ∙ c.if-not-is_valid.false in
    unbroken-at _ _ _ (sym c.in-Some.ensures) ∙ asked-reply _ _ _ _ _ 0 v c.in_ok-check_ask.ensures refl

pub returns-in-None : goal.returns-in-None
returns-in-None c =
    let v = sym c.is_valid.ensures ∙ c.if-not-is_valid.false in
    unbroken-none _ _ (sym c.in-None.ensures) ∙ asked-reply _ _ _ _ _ 0 v c.in_ok-check_ask.ensures refl
