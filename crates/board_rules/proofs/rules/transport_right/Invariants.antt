-- `board_rules::rules::transport_right` meets its contract. The loop: what is left of the cells decides as all of them do.
use Rattle.std.specs.Prelude.{◌≡◌, ◌-◌}
use Rattle.cells.specs.Every.{every_from}
use Rattle.board.specs.Places.{transport_right_by}
use Rattle.board_rules.proofs.rules.transport_right.Given as goal

abbrev pub invariant-loop-k : goal.invariant-loop-k
invariant-loop-k l = every_from (transport_right_by l.transport l.places) 0 256 ≡ every_from (transport_right_by l.transport l.places) l.k (256 - l.k)
