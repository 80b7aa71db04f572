-- `calendar_fits::some_contains` meets its contract: the closure is the test.
use Rattle.std.proofs.Common.{rules}
use Rattle.calendar.specs.Spans.{contains}
use Rattle.calendar_fits.proofs.some_contains.Goals as goal

pub returns : goal.returns
unfolding contains
returns c = c.any_span.ensures _ (λ s e r a b p. search rules)
