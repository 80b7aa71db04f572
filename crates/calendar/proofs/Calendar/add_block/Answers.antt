-- `calendar::Calendar::add_block` meets its contract, as for a window.
use Rattle.std.proofs.Common.{rules, sym, ap, ◌∙◌}
use Rattle.calendar.specs.Valid.{spans_right}
use Rattle.calendar.specs.Laws.Adding.{taken, span_right, valid-join}
use Rattle.calendar.specs.Laws.Rules.{windows-right, blocks-right}
use Rattle.calendar.proofs.Calendar.add_block.Goals as goal

pub with_span-blocks-requires : goal.with_span-blocks-requires
with_span-blocks-requires c = (taken _ _ _ _ (sym c.in_ok-check_span.ensures)).place

pub returns-clause-calendar_value : goal.returns-clause-calendar_value
returns-clause-calendar_value c =
    let t = taken _ _ _ _ (sym c.in_ok-check_span.ensures) in
    let e = c.with_span-blocks.ensures in
    λ h. valid-join _ (windows-right _ h) (ap spans_right e ∙ span_right _ _ _ (search rules) (search rules) t.place t.long t.ends (blocks-right _ h))
