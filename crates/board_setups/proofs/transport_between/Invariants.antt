-- `board_setups::transport_between` meets its contract: the greatest over the numbers below.
use Rattle.std.specs.Prelude.{◌≡◌}
use Rattle.board.specs.Transport.{greatest_transport}
use Rattle.board.specs.Places.{anywhere}
use Rattle.board_setups.proofs.transport_between.Given as goal

abbrev pub invariant-loop-from : goal.invariant-loop-from
invariant-loop-from l = l.most ≡ greatest_transport anywhere l.transport l.origins l.to l.from
