-- `timeline_readings::latest_end` meets its contract.
use mathlib.Core.Path.{refl, sym, ◌∙◌}
use native.Mathlib.Omega.{arith}
use Rattle.timeline_readings.specs.Reading.{read}
use Rattle.timeline.specs.Laws.Rules.{rules_of}
use Rattle.cells.specs.Laws.Cells.{before-pos, before-zero}
use Rattle.timeline.specs.Laws.Columns.{latest-last}
use Rattle.timeline_readings.proofs.latest_end.Goals as goal

pub returns-then-not-is_valid : goal.returns-then-not-is_valid
unfolding read
returns-then-not-is_valid c = rw (sym c.is_valid.ensures ∙ c.if-not-is_valid.true) refl

pub returns-then-timeline-eq0 : goal.returns-then-timeline-eq0
unfolding read
returns-then-timeline-eq0 c =
    let t = c.args.timeline in
    let v = sym c.is_valid.ensures ∙ c.if-not-is_valid.false in
    rw (v, latest-last t (rules_of t v), before-zero t.latest t.len (omega arith)) refl

pub offset_bounds-timeline-timeline : goal.offset_bounds-timeline-timeline
offset_bounds-timeline-timeline c =
    let v = sym c.is_valid.ensures ∙ c.if-not-is_valid.false in
    omega (arith, (rules_of c.args.timeline v).room)

pub bounds-timeline-timeline : goal.bounds-timeline-timeline
bounds-timeline-timeline c =
    let v = sym c.is_valid.ensures ∙ c.if-not-is_valid.false in
    omega (arith, (rules_of c.args.timeline v).room)

pub returns : goal.returns
unfolding read
returns c =
    let t = c.args.timeline in
    let v = sym c.is_valid.ensures ∙ c.if-not-is_valid.false in
    rw (v, latest-last t (rules_of t v), before-pos t.latest t.len (omega arith)) refl
