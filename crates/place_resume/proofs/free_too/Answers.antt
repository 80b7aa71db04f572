-- `place_resume::free_too` meets its contract.
use Rattle.std.proofs.Common.{refl}
use Rattle.place_resume.specs.Trials.{if_free}
use Rattle.place_resume.proofs.free_too.Goals as goal

pub returns : goal.returns
unfolding if_free
returns c = rw (c.then_some.ensures, c.is_free.ensures, c.in_ok-e.was) refl

pub returns-in_err-e : goal.returns-in_err-e
unfolding if_free
returns-in_err-e c = rw c.in_err-e.was c.from_residual.ensures
