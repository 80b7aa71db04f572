-- `board_cell_rules::is_zero` meets its contract.
use Rattle.board.specs.Laws.Numbers.{zero_bits}
use Rattle.board_cell_rules.proofs.is_zero.Goals as goal

pub returns : goal.returns
returns c = zero_bits c.args.ms c.ranges.ms
