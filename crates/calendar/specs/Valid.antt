-- 01, 'Calendar': when a calendar keeps the rules: at most 32 windows and 32 blocks, each with start < end and both instants, and 0 in
-- every cell past a length.
use Rattle.std.specs.Prelude.{ℕ, Bool, ◌&&◌, cond, get_or, leb, ltb, eqb}
use Rattle.calendar.specs.Limits.{last_instant, most_spans}
use Rattle.cells.specs.Every.{every_from}
use Rattle.calendar.specs.declared.TimeWindows.{TimeWindows}
use Rattle.calendar.specs.declared.Calendar.{Calendar}

-- cell i of a list of n spans
unfoldable pub cell_right : ℕ → ℕ → ℕ → ℕ → Bool
cell_right i n s e = cond (ltb i n) (ltb s e && leb e last_instant) (eqb s 0 && eqb e 0)

abbrev pub cell_at : TimeWindows → ℕ → Bool
cell_at l i = cell_right i l.len (get_or l.starts i 0) (get_or l.ends i 0)

unfoldable pub spans_right : TimeWindows → Bool
spans_right l = leb l.len most_spans && every_from (cell_at l) 0 most_spans

unfoldable pub valid : Calendar → Bool
valid c = spans_right c.windows && spans_right c.blocks
