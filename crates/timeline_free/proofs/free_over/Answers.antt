-- `timeline_free::free_over` meets its contract.
use mathlib.Core.Path.{sym, ◌∙◌}
use borrow.Author.Tests.{le-leb}
use native.Mathlib.Omega.{arith}
use Rattle.std.proofs.Common.{rules, length, ◌≡◌}
use Rattle.cells.specs.Laws.Cells.{front-rising, front-before}
use Rattle.timeline.specs.Laws.Columns.{from_cell}
use Rattle.timeline.specs.Laws.Loading.{free-over}
use Rattle.timeline_free.proofs.free_over.Goals as goal

pub cells_before-first-requires : goal.cells_before-first-requires
cells_before-first-requires c =
    let l : length c.args.t.now.latest ≡ 64 = search rules in
    front-rising _ _ (omega arith) c.requires.latest

pub units_over-requires : goal.units_over-requires
units_over-requires c = from_cell _ _ _ _ _ _ _ c.requires (front-before _ _ (let l : length c.args.t.now.latest ≡ 64 = search rules in let q = c.requires in omega arith) _ _ c.cells_before-first.ensures)

pub returns-then-units_over-room : goal.returns-then-units_over-room
returns-then-units_over-room c = le-leb _ _ c.if-units_over-room.true ∙ sym (free-over c.args.room _ 0 _ _ c.args.room (omega arith) (omega (arith, c.units_over.ensures, c.if-units_over-room.true)))

pub has_room-requires : goal.has_room-requires
has_room-requires c = from_cell _ _ _ _ _ _ _ c.requires (front-before _ _ (let l : length c.args.t.now.latest ≡ 64 = search rules in let q = c.requires in omega arith) _ _ c.cells_before-first.ensures)

pub returns-else-units_over-room : goal.returns-else-units_over-room
returns-else-units_over-room c = c.has_room.ensures
