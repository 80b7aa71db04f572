-- 01, 'Calendar': the windows and the blocks of a calendar as lists of spans, and what is said of one span.
use Rattle.std.specs.Prelude.{ℕ, zero, suc, Bool, false, ◌&&◌, ◌||◌, List, [], ◌∷◌, get_or, leb, ltb}
use Rattle.calendar.specs.declared.TimeWindows.{TimeWindows}

-- [start, end)
pub record Span : Type 0 where
  pub start : ℕ
  pub end : ℕ

abbrev pub span_at : TimeWindows → ℕ → Span
span_at l i = record { start = get_or l.starts i 0; end = get_or l.ends i 0 }

-- the k spans from cell i on
unfoldable pub spans_from : TimeWindows → ℕ → ℕ → List Span
spans_from l i zero = []
spans_from l i (suc k) = span_at l i ∷ spans_from l (suc i) k

abbrev pub spans : TimeWindows → List Span
spans l = spans_from l 0 l.len

-- one of them passes the test
unfoldable pub any : (Span → Bool) → List Span → Bool
any P [] = false
any P (w ∷ l) = P w || any P l

-- the window holds all of [s, e], its end at or before the window's end
unfoldable pub holds : ℕ → ℕ → Span → Bool
holds s e w = leb w.start s && leb e w.end

-- block start < span end and span start < block end
unfoldable pub meets : ℕ → ℕ → Span → Bool
meets s e b = ltb b.start e && ltb s b.end

-- TimeWindow::contains: start ≤ instant < end
unfoldable pub contains : ℕ → Span → Bool
contains p w = leb w.start p && ltb p w.end
