-- `timeline_free::is_free` meets its contract.
use mathlib.Core.Path.{sym, ◌∙◌}
use borrow.Author.Tests.{lt-leb}
use native.Mathlib.Omega.{arith}
use Rattle.timeline.specs.Laws.Rules.{rules_of}
use Rattle.timeline.specs.Laws.Columns.{columns}
use Rattle.timeline.specs.Laws.Loading.{free-few, free-room}
use Rattle.timeline_free.proofs.is_free.Goals as goal

pub returns-else-units-t : goal.returns-else-units-t
returns-else-units-t c = lt-leb _ _ c.if-units-t.false ∙ sym (free-few _ _ _ _ _ c.if-units-t.false)

pub free_over-requires : goal.free_over-requires
free_over-requires c = columns _ (rules_of _ c.requires)

pub returns-then-units-t : goal.returns-then-units-t
returns-then-units-t c = c.free_over.ensures ∙ free-room _ _ _ _ _ _ (omega arith)
