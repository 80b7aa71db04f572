-- `board_rules::places_of` meets its contract. The loop: the cells left decide as all do, and the tables have the places of the numbers and the lengths of
-- the diaries passed.
use Rattle.std.specs.Prelude.{◌≡◌, ◌&&◌, ◌-◌, ◌≤◌, length, min}
use Rattle.cells.specs.Every.{every_from}
use Rattle.board.specs.Valid.{cell_right, transport_right, valid}
use Rattle.board.specs.Laws.Seeing.{Seen}
use Rattle.board_rules.proofs.Lengths.{Read}
use Rattle.board_rules.proofs.places_of.Given as goal

abbrev pub invariant-loop-i : goal.invariant-loop-i
invariant-loop-i l = record {
  few : l.fn.b.len ≤ 16;
  seen : Seen l.fn.b (min l.i l.fn.b.len) l.places;
  decides : valid l.fn.b ≡ every_from (cell_right l.fn.b) l.i (16 - l.i) && every_from (transport_right l.fn.b) 0 256;
  long : length l.lens ≡ 16;
  read : Read l.fn.b l.i l.lens;
}
