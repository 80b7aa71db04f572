-- `timeline_free::has_room` meets its contract. The loop: there is room at the starts of the first i bookings.
use Prim.Native.Nat.{ℕ, ◌≤◌, ◌<◌}
use lib.ListN.{get_or}
use Rattle.timeline.specs.Bookings.{bookings_to}
use Rattle.timeline.specs.Free.{load}
use Rattle.timeline_free.proofs.has_room.Given as goal

abbrev pub invariant-loop-i : goal.invariant-loop-i
invariant-loop-i l = (load (bookings_to l.t.starts l.t.ends l.t.units l.t.len) l.s l.e l.s ≤ l.room) × ((k : ℕ) → k < l.i → l.s < get_or l.t.starts k 0 → get_or l.t.starts k 0 < l.e → load (bookings_to l.t.starts l.t.ends l.t.units l.t.len) l.s l.e (get_or l.t.starts k 0) ≤ l.room)
