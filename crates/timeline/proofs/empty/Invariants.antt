-- `timeline::empty` meets its contract: what is left of the definition.
use mathlib.Core.Path.{◌≡◌}
use Prim.Native.Nat.{◌-◌, ◌≤◌}
use Rattle.timeline.specs.Valid.{empty_from}
use Rattle.timeline.proofs.empty.Given as goal

abbrev pub invariant-loop-i : goal.invariant-loop-i
invariant-loop-i l =
    (l.i ≤ 64) × (empty_from l.t l.t.len (64 - l.t.len) ≡ empty_from l.t l.i (64 - l.i))
