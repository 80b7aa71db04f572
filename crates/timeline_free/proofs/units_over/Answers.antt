use Prim.Native.Nat.{◌+◌}
use native.Mathlib.Omega.{arith}
use Rattle.timeline.specs.Steps.{overlapping}
use Rattle.timeline.specs.Laws.Columns.{Tally, tally-start, tally-yes, tally-no, tally-end, over_yes, over-past, over-ahead}
use Rattle.timeline_free.proofs.units_over.Goals as goal
use Rattle.timeline_free.proofs.units_over.Goals.{then-s-t, else-s-t}

pub loop-i-init : goal.loop-i-init
loop-i-init c =
    let f = c.requires in
    tally-start _ _ _ _ _ (λ k h. over-past _ _ _ (f.past k h))

pub overflow_cast-sum : goal.overflow_cast-sum
overflow_cast-sum c = omega (arith, c.requires.few _ c.loop-i-test.true)

pub overflow_add-sum : goal.overflow_add-sum
overflow_add-sum c = omega (arith, c.loop-i.invariant.most, c.requires.few _ c.loop-i-test.true)

pub loop-i-preserved : goal.loop-i-preserved
loop-i-preserved c =
    let v = c.loop-i.invariant in
    let f = c.requires in
    let t : Tally _ _ _ _ (c.loop-i.i + 1) c.if-s-t.sum =
    elim c.if-s-t.branch [ then-s-t w ↦ tally-yes _ _ _ _ _ _ _ v (over_yes _ _ _ c.if-t-i.false w.if-s-t.true) (f.few _ c.loop-i-test.true) w.sum-is | else-s-t w ↦ tally-no _ _ _ _ _ _ _ v (over-past _ _ _ w.if-s-t.false) w.sum-is ] in
    t

pub returns-after-loop-i : goal.returns-after-loop-i
unfolding overlapping
returns-after-loop-i c =
    let v = c.loop-i.invariant in
    tally-end _ _ _ _ _ _ _ v (omega arith) (λ k a b. absurd (omega arith))

pub returns-then-t-i : goal.returns-then-t-i
unfolding overlapping
returns-then-t-i c =
    let v = c.loop-i.invariant in
    let f = c.requires in
    tally-end _ _ _ _ _ _ _ v (omega arith) (λ k a b. over-ahead _ _ _ (omega (arith, f.starts _ k a b, c.if-t-i.true)))
