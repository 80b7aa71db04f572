use Rattle.std.proofs.Common.{length}
use borrow.Author.Rules.{rules}
use mathlib.Core.Path.{sym}
use Prim.Native.Nat.{◌+◌, ◌<◌}
use native.Mathlib.Omega.{arith}
use Rattle.calendar_work.proofs.Walking.{edges-cells, even-not, odd-other, going_start, going-pause, going_end, going-none, going_on}
use Rattle.calendar_work.proofs.work_end.Goals as goal

pub cells_before-k-requires : goal.cells_before-k-requires
cells_before-k-requires c = (edges-cells _ _ (omega arith) c.requires.edges).rising

pub returns-then-k-eq0 : goal.returns-then-k-eq0
returns-then-k-eq0 c = sym (going-pause _ _ _ _ _ c.cells_before-k.ensures (even-not _ c.if-k-eq0.true))

pub loop-k-init : goal.loop-k-init
loop-k-init c =
    let q = c.requires in
    (q.bounds.0, q.bounds.1, q.bounds.2, q.edges, going_start _ _ _ _ _ c.cells_before-k.ensures (odd-other _ c.if-k-eq0.false))

pub bounds-edges-k : goal.bounds-edges-k
bounds-edges-k c = omega arith

pub overflow_sub-end : goal.overflow_sub-end
overflow_sub-end c =
    let g = c.loop-k.invariant.4.parted.high _ (omega arith) c.loop-k-test.true in
    search rules

pub overflow_add-result : goal.overflow_add-result
overflow_add-result c = omega arith

pub returns-then-left-end : goal.returns-then-left-end
returns-then-left-end c =
    let v = c.loop-k.invariant in
    sym (going_end _ _ _ _ _ _ _ v.3 v.4 (λ h. c.if-left-end.true))

pub overflow_add-k : goal.overflow_add-k
overflow_add-k c = omega arith

pub returns-then-k-edges : goal.returns-then-k-edges
returns-then-k-edges c =
    let v = c.loop-k.invariant in
    sym (going-none _ _ _ _ _ _ _ v.3 v.4 c.loop-k-test.true c.if-left-end.false c.if-k-edges.true)

pub overflow_sub-left : goal.overflow_sub-left
overflow_sub-left c = let g = c.loop-k.invariant.4.parted.high _ (omega arith) c.loop-k-test.true in omega arith

pub bounds-edges-k-in-loop-k : goal.bounds-edges-k-in-loop-k
bounds-edges-k-in-loop-k c = omega (arith, c.if-k-edges.false)

pub loop-k-preserved : goal.loop-k-preserved
loop-k-preserved c =
    let v = c.loop-k.invariant in
    let h : c.loop-k.k + 1 < length c.args.edges.now = omega (arith, c.if-k-edges.false) in
    (omega arith, v.3.below _ h, omega arith, v.3, going_on _ _ _ _ _ _ _ v.3 v.4 c.loop-k-test.true c.if-left-end.false h)

pub returns : goal.returns
returns c =
    let v = c.loop-k.invariant in
    sym (going_end _ _ _ _ _ _ _ v.3 v.4 (λ h. absurd (omega arith)))
