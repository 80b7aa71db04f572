-- `timeline_fit::earliest_gap` meets its contract. The loop: the walk before booking i (Gaps).
use Prim.Native.Nat.{◌≤◌}
use Rattle.timeline_fit.proofs.Gaps.{Walk}
use Rattle.timeline_fit.proofs.earliest_gap.Given as goal

abbrev pub invariant-loop-i : goal.invariant-loop-i
invariant-loop-i l = (l.t.len ≤ 64) × Walk l.t l.from l.span l.i l.at
