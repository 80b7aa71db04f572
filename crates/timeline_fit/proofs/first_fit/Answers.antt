use borrow.Author.Rules.{rules}
use borrow.Author.Count.{below_none, below_more}
use mathlib.Core.Path.{◌≡◌, sym, ◌∙◌}
use Prim.Native.Nat.{◌+◌, ◌-◌}
use native.Mathlib.Omega.{arith}
use Rattle.timeline.specs.Laws.Rules.{rules_of}
use Rattle.timeline.specs.Laws.Columns.{columns}
use Rattle.timeline_fit.proofs.Fitting.{over_yes, over-shut, over-full, fit-listed, fit-unlisted}
use Rattle.timeline_resume.proofs.Trying.{candidate-range}
use Rattle.timeline_fit.proofs.first_fit.Goals as goal
use Rattle.timeline_fit.proofs.first_fit.Goals.{else-interval_fits-via-then-interval_fits+else-free_over, else-interval_fits-via-else-interval_fits}

pub overflow_sub-room : goal.overflow_sub-room
overflow_sub-room c = c.requires.3

pub start_candidates-n-requires : goal.start_candidates-n-requires
start_candidates-n-requires c = (c.requires.0, omega arith)

pub loop-i-init : goal.loop-i-init
loop-i-init c = (search rules, below_none _)

pub overflow_add-end : goal.overflow_add-end
overflow_add-end c =
    let q = c.requires in
    let r = candidate-range _ q.0 _ _ _ _ c.start_candidates-n.ensures q.1 _ c.loop-i-test.true in
    search rules

pub interval_fits-requires : goal.interval_fits-requires
interval_fits-requires c = (rules_of _ c.requires.0).calendar

pub free_over-requires : goal.free_over-requires
free_over-requires c = columns _ (rules_of _ c.requires.0)

pub returns-then-free_over : goal.returns-then-free_over
returns-then-free_over c =
    let e : c.args.units + (c.args.t.capacity - c.args.units) ≡ c.args.t.capacity = omega (arith, c.requires.3) in
    sym (fit-listed _ c.requires.0 _ _ _ _ c.start_candidates-n.ensures c.requires.1 _ _ _ e _ c.loop-i-test.true c.loop-i.invariant.1
    (over_yes _ _ _ _ _ (sym c.interval_fits.ensures ∙ c.if-interval_fits.true) (sym c.free_over.ensures ∙ c.if-free_over.true)))

pub loop-i-preserved : goal.loop-i-preserved
loop-i-preserved c =
    let v = c.loop-i.invariant in (
      v.0,
      below_more _ _ v.1
          (elim c.else-interval_fits.branch [ else-interval_fits-via-then-interval_fits+else-free_over w ↦ over-full _ _ _ _ _ (sym w.free_over.ensures ∙ w.if-free_over.false) | else-interval_fits-via-else-interval_fits w ↦ over-shut _ _ _ _ _ (sym c.interval_fits.ensures ∙ w.if-interval_fits.false) ]),
    )

pub returns : goal.returns
returns c =
    let v = c.loop-i.invariant in
    let e : c.args.units + (c.args.t.capacity - c.args.units) ≡ c.args.t.capacity = omega (arith, c.requires.3) in
    sym (fit-unlisted _ c.requires.0 _ _ _ _ c.start_candidates-n.ensures c.requires.1 _ _ _ e (λ k h. v.1 k (omega arith)))
