-- `calendar_fits::some_meets` meets its contract: the closure is the test.
use Rattle.std.proofs.Common.{rules}
use Rattle.calendar.specs.Spans.{meets}
use Rattle.calendar_fits.proofs.some_meets.Goals as goal

pub returns : goal.returns
unfolding meets
returns c = c.any_span.ensures _ (λ s e r a b p. search rules)
