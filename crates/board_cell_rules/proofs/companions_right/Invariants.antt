-- `board_cell_rules::companions_right` meets its contract. The loop: what is left of the cells decides as all of them do.
use Rattle.std.specs.Prelude.{◌≡◌, ◌-◌, get_or}
use Rattle.cells.specs.Every.{every_from}
use Rattle.board.specs.Valid.{companion_cell, companions_right}
use Rattle.board_cell_rules.proofs.companions_right.Given as goal

abbrev pub invariant-loop-i : goal.invariant-loop-i
invariant-loop-i l = companions_right l.companions l.n ≡ every_from (λ k. companion_cell l.n k (get_or l.companions k 0)) l.i (4 - l.i)
