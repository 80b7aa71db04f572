-- `place_fit::fit_unbroken` meets its contract. The loop: nothing suits all before the instant at hand, and that suits those asked (Asking).
use Rattle.std.proofs.Common.{◌+◌, ◌-◌, ◌*◌, false}
use Rattle.scheduler.specs.Instants.{above}
use Rattle.scheduler.specs.Laws.Asking.{Asked}
use Rattle.place_fit.specs.Asks.{Asks, those}
use Rattle.place_fit.proofs.Reading.{instants}
use Rattle.place_fit.proofs.fit_unbroken.Given as goal

abbrev pub invariant-loop-i : goal.invariant-loop-i
invariant-loop-i l = record {
  asks : Asks l.b l.e.entries l.e.count l.places l.first;
  asked : Asked false l.span (those l.b l.e.entries l.e.count l.first) l.from l.t l.i;
}

abbrev pub decreases-loop-i : goal.decreases-loop-i
decreases-loop-i l = above (instants l.b l.e.entries l.e.count l.first) l.t * 32 + (l.e.count + 1 - l.i)
