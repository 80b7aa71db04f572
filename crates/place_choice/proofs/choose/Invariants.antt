-- `place_choice::choose` meets its contract. The loops: the plans so far; the rounds, which have led to t; in a round, what is known of the
-- cells in front.
use Rattle.std.proofs.Common.{◌≤◌}
use Rattle.scheduler.specs.Instants.{above, points}
use Rattle.place_plans.specs.Plans.{Planned}
use Rattle.place_rounds.specs.Tables.{Remembered}
use Rattle.place_rounds.specs.Rounds.{LedTo}
use Rattle.place_rounds.proofs.Noting.{Through}
use Rattle.place_choice.proofs.choose.Given as goal

abbrev pub invariant-loop-i : goal.invariant-loop-i
invariant-loop-i l = record { few : l.b.len ≤ 16; planned : Planned l.b l.a l.ready l.i l.plans }

abbrev pub invariant-rounds : goal.invariant-rounds
invariant-rounds l = record {
  few : l.b.len ≤ 16;
  four : l.a.len ≤ 4;
  led : LedTo l.b l.a l.ready l.t;
  kept : Remembered l.b l.a l.ready l.asked l.starts;
}

abbrev pub invariant-loop-k : goal.invariant-loop-k
invariant-loop-k l = record {
  four : l.a.len ≤ 4;
  kept : Remembered l.b l.a l.ready l.asked l.starts;
  thru : Through l.b l.a l.ready l.t l.starts l.k;
}

-- the instants left
abbrev pub decreases-rounds : goal.decreases-rounds
decreases-rounds l = above (points l.b l.a l.ready) l.t
