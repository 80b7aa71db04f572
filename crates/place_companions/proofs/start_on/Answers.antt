-- `place_companions::start_on` meets its contract.
use Rattle.scheduler.specs.Shares.{start_on}
use Rattle.place_companions.proofs.Starting.{resumable-start}
use Rattle.place_companions.proofs.start_on.Goals as goal

pub returns-in_ok-start : goal.returns-in_ok-start
unfolding start_on
returns-in_ok-start c =
    let a = c.args in
    rw c.if-resumable.true (resumable-start a.t c.requires.0 a.from a.span a.units _ c.in_ok-start.ensures)

pub returns-in_err-start : goal.returns-in_err-start
unfolding start_on
returns-in_err-start c =
    let a = c.args in
    rw (c.from_residual.ensures, c.if-resumable.true) (resumable-start a.t c.requires.0 a.from a.span a.units _ c.in_err-start.ensures)

pub returns-else-resumable : goal.returns-else-resumable
unfolding start_on
returns-else-resumable c = rw c.if-resumable.false c.earliest_fit.ensures
