-- `calendar_work::work_end` meets its contract. The loop: what is left of the work is left from here on (Walking).
use Prim.Native.Nat.{◌-◌, ◌^◌, ◌≤◌, ◌<◌}
use lib.ListN.{length}
use Rattle.calendar_work.specs.Layout.{Edges}
use Rattle.calendar_work.proofs.Walking.{WalkedTo}
use Rattle.calendar_work.proofs.work_end.Given as goal

abbrev pub invariant-loop-k : goal.invariant-loop-k
invariant-loop-k l = (length l.edges ≤ 4096) × (l.at < 2 ^ 63) × (l.left < 2 ^ 63) × Edges l.edges (length l.edges) × WalkedTo l.edges (length l.edges) l.start l.work l.k l.at l.left

abbrev pub decreases-loop-k : goal.decreases-loop-k
decreases-loop-k l = length l.edges - l.k
