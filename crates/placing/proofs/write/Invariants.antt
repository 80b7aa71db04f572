-- `placing::write` meets its contract. The loop: the first i entries stand on the slate, and the rest of it is as it was.
use Rattle.std.proofs.Common.{◌≡◌}
use Rattle.placing.proofs.Writing.{written}
use Rattle.placing.proofs.write.Given as goal

abbrev pub invariant-loop-i : goal.invariant-loop-i
invariant-loop-i l = l.slate ≡ written l.entries l.initial.slate l.i
