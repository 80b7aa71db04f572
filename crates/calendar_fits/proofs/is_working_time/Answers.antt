-- `calendar_fits::is_working_time` meets its contract.
use Rattle.std.proofs.Common.{sym, ◌∙◌, eq-eqb}
use Rattle.calendar.specs.Work.{working}
use Rattle.calendar.specs.Laws.Rules.{right, windows-right, blocks-right}
use Rattle.calendar.specs.Laws.Spanning.{open-by-none, open-by-some}
use Rattle.calendar_fits.proofs.is_working_time.Goals as goal

pub some_contains-requires : goal.some_contains-requires
some_contains-requires c = (right _ (blocks-right _ c.requires)).few

pub some_contains-requires-else-c-eq0 : goal.some_contains-requires-else-c-eq0
some_contains-requires-else-c-eq0 c = (right _ (windows-right _ c.requires)).few

pub returns-then-c-eq0 : goal.returns-then-c-eq0
unfolding working
returns-then-c-eq0 c = eq-eqb _ _ c.if-c-eq0.true ∙ open-by-none _ _ _ _ (sym c.some_contains.ensures ∙ c.if-not-some_contains.true) c.if-c-eq0.true

pub returns-else-c-eq0 : goal.returns-else-c-eq0
unfolding working
returns-else-c-eq0 c = c.some_contains-else-c-eq0.ensures ∙ open-by-some _ _ _ _ (sym c.some_contains.ensures ∙ c.if-not-some_contains.true) c.if-c-eq0.false
