-- `calendar::Calendar::add_window` meets its contract: what is taken has a place, and keeps the rules.
use Rattle.std.proofs.Common.{rules, sym, ap, ◌∙◌}
use Rattle.calendar.specs.Valid.{spans_right}
use Rattle.calendar.specs.Laws.Adding.{taken, span_right, valid-join}
use Rattle.calendar.specs.Laws.Rules.{windows-right, blocks-right}
use Rattle.calendar.proofs.Calendar.add_window.Goals as goal

pub with_span-windows-requires : goal.with_span-windows-requires
with_span-windows-requires c = (taken _ _ _ _ (sym c.in_ok-check_span.ensures)).place

pub returns-clause-calendar_value : goal.returns-clause-calendar_value
returns-clause-calendar_value c =
    let t = taken _ _ _ _ (sym c.in_ok-check_span.ensures) in
    let e = c.with_span-windows.ensures in
    λ h. valid-join _ (ap spans_right e ∙ span_right _ _ _ (search rules) (search rules) t.place t.long t.ends (windows-right _ h)) (blocks-right _ h)
