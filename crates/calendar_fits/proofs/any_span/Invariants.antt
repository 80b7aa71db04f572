-- `calendar_fits::any_span` meets its contract. The loop: what is left of the spans decides as all of them do.
use Rattle.std.proofs.Common.{◌≡◌, Bool, ◌-◌}
use Rattle.calendar_fits.specs.Tests.{Tests}
use Rattle.calendar.specs.Spans.{Span, spans, spans_from, any}
use Rattle.calendar_fits.proofs.any_span.Given as goal

abbrev pub invariant-loop-i : goal.invariant-loop-i
invariant-loop-i g l = (P : Span → Bool) → Tests (λ s e r. g.F.Fn.post l.test (s, (e, tt)) r) P → any P (spans l.l) ≡ any P (spans_from l.l l.i (l.l.len - l.i))
