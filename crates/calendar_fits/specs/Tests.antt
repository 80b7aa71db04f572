-- When a closure over the two ends of a span is a test of spans.
use Rattle.std.specs.Prelude.{◌≡◌, ℕ, Bool, ◌<◌, ◌^◌}
use Rattle.calendar.specs.Spans.{Span}

-- whatever a call answers is what P says of the span
abbrev pub Tests : (ℕ → ℕ → Bool → Type 0) → (Span → Bool) → Type 0
Tests post P = (s e : ℕ) (r : Bool) → s < 2 ^ 64 → e < 2 ^ 64 → post s e r → r ≡ P (record { start = s; end = e })
