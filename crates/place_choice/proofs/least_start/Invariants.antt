-- `place_choice::least_start` meets its contract. The loop: how far the asking has come (Asking).
use Rattle.std.proofs.Common.{◌≡◌, ℕ, ◌+◌, ◌-◌, ◌*◌, ◌≤◌, ◌<◌}
use Rattle.calendar.specs.Search.{at}
use Rattle.scheduler.specs.Instants.{above, events_on}
use Rattle.place_rounds.specs.Tables.{found_at, requirement_at}
use Rattle.place_choice.specs.Seeking.{Seeks}
use Rattle.place_choice.proofs.Asking.{AskedTo}
use Rattle.place_choice.proofs.least_start.Given as goal

abbrev pub invariant-loop-g : goal.invariant-loop-g
invariant-loop-g l = record {
  on : (ready : ℕ) → Seeks l.b l.a ready l.p l.i l.j l.t → l.g.next ≤ l.p.count → AskedTo l.b l.a ready l.i l.t (requirement_at l.a l.j) l.g;
  found : (ready : ℕ) → Seeks l.b l.a ready l.p l.i l.j l.t → l.p.count < l.g.next → at l.g.start ≡ found_at l.b l.a ready (requirement_at l.a l.j) l.t l.i;
}

-- events left and members left
abbrev pub decreases-loop-g : goal.decreases-loop-g
decreases-loop-g l = above (events_on l.b) l.g.start * 32 + (5 - l.g.next)
