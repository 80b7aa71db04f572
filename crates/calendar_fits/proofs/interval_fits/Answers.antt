-- `calendar_fits::interval_fits` meets its contract.
use Rattle.std.proofs.Common.{sym, ◌∙◌, eq-eqb}
use Rattle.calendar.specs.Fits.{fits}
use Rattle.calendar.specs.Laws.Rules.{right, windows-right, blocks-right}
use Rattle.calendar.specs.Laws.Spanning.{open-by-none, open-by-some}
use Rattle.calendar_fits.proofs.interval_fits.Goals as goal

pub some_meets-requires : goal.some_meets-requires
some_meets-requires c = (right _ (blocks-right _ c.requires)).few

pub some_holds-requires : goal.some_holds-requires
some_holds-requires c = (right _ (windows-right _ c.requires)).few

pub returns-then-c-eq0 : goal.returns-then-c-eq0
unfolding fits
returns-then-c-eq0 c = eq-eqb _ _ c.if-c-eq0.true ∙ open-by-none _ _ _ _ (sym c.some_meets.ensures ∙ c.if-not-some_meets.true) c.if-c-eq0.true

pub returns-else-c-eq0 : goal.returns-else-c-eq0
unfolding fits
returns-else-c-eq0 c = c.some_holds.ensures ∙ open-by-some _ _ _ _ (sym c.some_meets.ensures ∙ c.if-not-some_meets.true) c.if-c-eq0.false
