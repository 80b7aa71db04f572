-- `timeline::filled` meets its contract. The loop: what is left of the definition, and the total of the bookings passed, each part of it
-- small.
use mathlib.Core.Path.{◌≡◌}
use Prim.Native.Nat.{◌-◌, ◌*◌, ◌≤◌}
use Rattle.timeline.specs.Bookings.{bookings_to, total}
use Rattle.cells.specs.Cells.{before}
use Rattle.timeline.specs.Valid.{filled_from}
use Rattle.timeline.proofs.filled.Given as goal

abbrev pub invariant-loop-i : goal.invariant-loop-i
invariant-loop-i l =
    (l.ps ≡ before l.t.starts l.i) × (l.pl ≡ before l.t.latest l.i) × (filled_from l.t 0 l.t.len ≡ filled_from l.t l.i (l.t.len - l.i))
    × (l.sum ≡ total (bookings_to l.t.starts l.t.ends l.t.units l.i)) × (l.sum ≤ l.i * 43980465111040000)
