-- `timeline_free::units_over` meets its contract. The loop: the units of the first i bookings that overlap (Columns).
use Rattle.timeline.specs.Free.{overlaps}
use Rattle.timeline.specs.Laws.Columns.{Tally}
use Rattle.timeline_free.proofs.units_over.Given as goal

abbrev pub invariant-loop-i : goal.invariant-loop-i
invariant-loop-i l = Tally (λ b. overlaps b l.s l.e) l.t.starts l.t.ends l.t.units l.i l.sum
