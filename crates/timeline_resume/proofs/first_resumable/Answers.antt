use borrow.Author.Rules.{rules}
use borrow.Author.Count.{below_none, below_more}
use mathlib.Core.Path.{◌≡◌, sym, ap, ◌∙◌}
use Prim.Native.Nat.{◌+◌, ◌-◌}
use native.Mathlib.Omega.{arith}
use Rattle.calendar_work.specs.Layout.{found_of}
use Rattle.timeline.specs.Ask.{ended}
use Rattle.std.proofs.Common.{length}
use Rattle.cells.specs.Laws.Cells.{front-long}
use Rattle.calendar_joint.proofs.Laying.{layout-part}
use Rattle.timeline.specs.Laws.Rules.{rules_of}
use Rattle.timeline.specs.Laws.Columns.{columns}
use Rattle.timeline_resume.proofs.Finding.{until_end, until_none, start-listed, start-unlisted}
use Rattle.timeline_resume.proofs.Trying.{candidate-range}
use Rattle.timeline_resume.proofs.first_resumable.Goals as goal
use Rattle.timeline_resume.proofs.first_resumable.Goals.{in-Some+else-free_over, in_default}

pub overflow_sub-room : goal.overflow_sub-room
overflow_sub-room c = c.requires.3

pub working_time-m-requires : goal.working_time-m-requires
working_time-m-requires c = ((rules_of _ c.requires.0).calendar, omega arith)

pub start_candidates-n-requires : goal.start_candidates-n-requires
start_candidates-n-requires c = (c.requires.0, omega arith)

pub loop-i-init : goal.loop-i-init
loop-i-init c = (search rules, search rules, below_none _)

pub work_end-requires : goal.work_end-requires
work_end-requires c =
    let q = c.requires in
    let w = c.working_time-m.ensures in
    let l : length c.working_time-m.new.out ≡ 128 = search rules in
    let n = front-long c.working_time-m.new.out c.working_time-m.result (omega arith) in
    let r = candidate-range _ q.0 _ _ _ _ c.start_candidates-n.ensures q.1 _ c.loop-i-test.true in
    record { bounds = (omega (arith, w.0), omega arith, omega (arith, q.2)); edges = (layout-part _ _ _ (omega arith) w.1).edges }

pub free_over-requires : goal.free_over-requires
free_over-requires c = columns _ (rules_of _ c.requires.0)

pub returns-then-free_over : goal.returns-then-free_over
unfolding ended
returns-then-free_over c =
    let e : c.args.units + (c.args.t.capacity - c.args.units) ≡ c.args.t.capacity = omega (arith, c.requires.3) in
    start-listed _ c.requires.0 _ _ _ _ c.start_candidates-n.ensures c.requires.1 _ _ _ e _ _ (layout-part _ _ _ (let l : length c.working_time-m.new.out ≡ 128 = search rules in let w = c.working_time-m.ensures.0 in omega arith) c.working_time-m.ensures.1) _ _ c.loop-i-test.true c.loop-i.invariant.2
    (sym c.work_end.ensures ∙ ap found_of c.in-Some.is) (sym c.free_over.ensures ∙ c.if-free_over.true)

pub loop-i-preserved : goal.loop-i-preserved
loop-i-preserved c =
    let v = c.loop-i.invariant in (
      v.0,
      v.1,
      below_more _ _ v.2
          (elim c.match-work_end.branch [
            | in-Some+else-free_over w ↦ until_end _ _ _ _ _ _ (sym c.work_end.ensures ∙ ap found_of w.in-Some.is) (sym w.free_over.ensures ∙ w.if-free_over.false)
            | in_default w ↦ until_none _ _ _ _ (sym c.work_end.ensures ∙ ap found_of w.in_default.is)
          ]),
    )

pub returns : goal.returns
unfolding ended
returns c =
    let v = c.loop-i.invariant in
    let e : c.args.units + (c.args.t.capacity - c.args.units) ≡ c.args.t.capacity = omega (arith, c.requires.3) in
    start-unlisted _ c.requires.0 _ _ _ _ c.start_candidates-n.ensures c.requires.1 _ _ _ e _ _ (layout-part _ _ _ (let l : length c.working_time-m.new.out ≡ 128 = search rules in let w = c.working_time-m.ensures.0 in omega arith) c.working_time-m.ensures.1) (λ k h. v.2 k (omega arith))
