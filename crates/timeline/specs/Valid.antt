-- 01, 'Diary': when a diary keeps the rules: its calendar's, its length, each booking's range, the order by start, the running latest ends,
-- the booked total, and 0 in every cell past the length.
use Rattle.std.specs.Prelude.{ℕ, ◌-◌, ◌^◌, max, Bool, ◌&&◌, get_or, leb, ltb, eqb}
use Rattle.calendar.specs.Limits.{last_instant, most_units, most_bookings}
use Rattle.timeline.specs.declared.ResourceTimeline.{ResourceTimeline}
use Rattle.timeline.specs.Bookings.{bookings, total}
use Rattle.cells.specs.Every.{every_from}
use Rattle.cells.specs.Cells.{before}
use Rattle.calendar.specs.Valid as calendar

-- a filled cell: start, end, units and latest end, after a cell with start ps and latest end pl
unfoldable pub cell_right : ℕ → ℕ → ℕ → ℕ → ℕ → ℕ → Bool
cell_right s e u l ps pl =
    ltb s e && (leb e last_instant && (leb 1 u && (leb u most_units && (leb ps s && eqb l (max pl e)))))

-- an empty cell
unfoldable pub cell_empty : ℕ → ℕ → ℕ → ℕ → Bool
cell_empty s e u l = eqb s 0 && (eqb e 0 && (eqb u 0 && eqb l 0))

abbrev pub filled_at : ResourceTimeline → ℕ → Bool
filled_at t i =
    cell_right (get_or t.starts i 0) (get_or t.ends i 0) (get_or t.units i 0) (get_or t.latest i 0)
    (before t.starts i)
    (before t.latest i)

abbrev pub empty_at : ResourceTimeline → ℕ → Bool
empty_at t i = cell_empty (get_or t.starts i 0) (get_or t.ends i 0) (get_or t.units i 0) (get_or t.latest i 0)

-- the k cells from cell i on
abbrev pub filled_from : ResourceTimeline → ℕ → ℕ → Bool
filled_from t i k = every_from (filled_at t) i k

abbrev pub empty_from : ResourceTimeline → ℕ → ℕ → Bool
empty_from t i k = every_from (empty_at t) i k

-- the cells: those up to the length filled, those past it empty, and the booked total
abbrev pub cells_right : ResourceTimeline → Bool
cells_right t = filled_from t 0 t.len && (empty_from t t.len (64 - t.len) && eqb t.booked (total (bookings t)))

-- the rules but for the capacity's: its calendar, its length and its cells
unfoldable pub contents_right : ResourceTimeline → Bool
contents_right t = calendar.valid t.calendar && (leb t.len most_bookings && cells_right t)

unfoldable pub valid : ResourceTimeline → Bool
valid t = leb 1 t.capacity && (ltb t.capacity (2 ^ 31) && contents_right t)
