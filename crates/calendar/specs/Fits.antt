-- 01, 'Calendar': an unbroken span.
use Rattle.std.specs.Prelude.{ℕ, Bool, true, not, ◌&&◌, List, [], ◌∷◌}
use Rattle.calendar.specs.declared.Calendar.{Calendar}
use Rattle.calendar.specs.Spans.{Span, spans, any, holds, meets}

-- one of the windows passes the test, or there are no windows: no windows means always open
unfoldable pub open_for : (Span → Bool) → List Span → Bool
open_for P [] = true
open_for P (w ∷ l) = any P (w ∷ l)

-- [s, e) fits when one single window holds all of it (or there are no windows), and no block meets it
unfoldable pub fits : Calendar → ℕ → ℕ → Bool
fits c s e = open_for (holds s e) (spans c.windows) && not (any (meets s e) (spans c.blocks))
