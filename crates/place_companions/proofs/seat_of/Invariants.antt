-- `place_companions::seat_of` meets its contract. The loop: the first companions have their places (Seating).
use Rattle.place_companions.proofs.Seating.{Sits}
use Rattle.place_companions.proofs.seat_of.Given as goal

abbrev pub invariant-loop-j : goal.invariant-loop-j
invariant-loop-j l = Sits l.own l.companions l.places l.i l.seat l.j
