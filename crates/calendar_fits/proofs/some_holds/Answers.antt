-- `calendar_fits::some_holds` meets its contract: the closure is the test.
use Rattle.std.proofs.Common.{rules}
use Rattle.calendar.specs.Spans.{holds}
use Rattle.calendar_fits.proofs.some_holds.Goals as goal

pub returns : goal.returns
unfolding holds
returns c = c.any_span.ensures _ (λ s e r a b p. search rules)
