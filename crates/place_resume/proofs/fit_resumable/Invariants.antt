-- `place_resume::fit_resumable` meets its contract. The loops: the calendars of the diaries so far are gathered; then no work starts before
-- the instant at hand, which is tried on one diary after another (Walking).
use Rattle.std.proofs.Common.{◌+◌, take, length}
use Rattle.place_fit.specs.Asks.{Asks, those}
use Rattle.place_fit.proofs.Reading.{instants}
use Rattle.place_resume.proofs.Walking.{Gathers, Walks, Tried, remaining}
use Rattle.place_resume.proofs.fit_resumable.Given as goal

abbrev pub invariant-loop-i : goal.invariant-loop-i
invariant-loop-i l = record {
  asks : Asks l.b l.e.entries l.e.count l.places l.first;
  gathers : Gathers (those l.b l.e.entries l.e.count l.first) (l.e.count + 1) l.work l.from (instants l.b l.e.entries l.e.count l.first) l.cs l.i;
}

abbrev pub invariant-loop-at : goal.invariant-loop-at
invariant-loop-at l = record {
  asks : Asks l.b l.e.entries l.e.count l.places l.first;
  walks : Walks (those l.b l.e.entries l.e.count l.first) (l.e.count + 1) l.work l.from (instants l.b l.e.entries l.e.count l.first) (take l.joint.len l.joint.edges) (length (take l.joint.len l.joint.edges)) l.at;
}

abbrev pub invariant-loop-i-2 : goal.invariant-loop-i-2
invariant-loop-i-2 l = record {
  asks : Asks l.b l.e.entries l.e.count l.places l.first;
  tried : Tried (those l.b l.e.entries l.e.count l.first) (l.e.count + 1) l.work l.from (instants l.b l.e.entries l.e.count l.first) l.at l.end l.next l.i;
}

-- the instants left
abbrev pub decreases-loop-at : goal.decreases-loop-at
decreases-loop-at l = remaining (instants l.b l.e.entries l.e.count l.first) l.at
