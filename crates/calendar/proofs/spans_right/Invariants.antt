-- `calendar::spans_right` meets its contract. The loop: what is left of the cells decides as all of them do.
use mathlib.Core.Path.{◌≡◌}
use Prim.Native.Nat.{◌-◌, ◌≤◌}
use Rattle.calendar.specs.Valid.{cell_at, spans_right}
use Rattle.cells.specs.Every.{every_from}
use Rattle.calendar.proofs.spans_right.Given as goal

abbrev pub invariant-loop-i : goal.invariant-loop-i
invariant-loop-i l = (l.n ≡ l.l.len) × (l.n ≤ 32) × (l.i ≤ 32) × (spans_right l.l ≡ every_from (cell_at l.l) l.i (32 - l.i))
