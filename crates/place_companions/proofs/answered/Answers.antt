-- `place_companions::answered` meets its contract.
use Rattle.std.proofs.Common.{refl}
use Rattle.place_companions.specs.Steps.{answered_by}
use Rattle.place_companions.proofs.answered.Goals as goal

pub returns : goal.returns
unfolding answered_by
returns c = rw (c.in_ok-start.was, c.next_asked-next.ensures) refl

pub returns-in_err-start : goal.returns-in_err-start
unfolding answered_by
returns-in_err-start c = rw c.in_err-start.was c.from_residual.ensures
