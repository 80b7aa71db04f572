-- How the code checks the rows of a slate.
use Rattle.std.specs.Prelude.{ℕ, ◌+◌, ◌<◌, ◌≡◌, Bool, true, ◌&&◌, List, get_or, leb, ltb}
use Rattle.calendar.specs.Limits.{most_units, most_bookings}
use Rattle.board.specs.declared.Board.{Board}
use Rattle.board.specs.Valid.{valid}
use Rattle.board.specs.Places.{Known, Lengths}
use Rattle.scheduler.specs.Rows.{Row, number_in, units_in}
use Rattle.scheduler.specs.Committing.{Line, lines_of, entries_on, lines_refusal, commit_refusal}

-- the row names a number that has a place
unfoldable pub numbered : List ℕ → Row → Bool
numbered places row = ltb (number_in row) 16 && ltb (get_or places (number_in row) 0) 16

-- its units are in range
unfoldable pub metered : Row → Bool
metered row = leb 1 (units_in row) && leb (units_in row) most_units

-- its diary has places for all entries on it
unfoldable pub roomy : List ℕ → List ℕ → List ℕ → Row → Bool
roomy places lens tally row = leb (get_or lens (get_or places (number_in row) 0) 0 + get_or tally (number_in row) 0) most_bookings

-- how many of the first n rows name each number
abbrev pub Counted : List Row → ℕ → List ℕ → Type 0
Counted slate n tally = (k : ℕ) → k < 16 → get_or tally k 0 ≡ entries_on k (lines_of n slate)

-- r is the refusal of some rows, 0 for none, on any board with these places and as many bookings in its diaries
abbrev pub RowsRefusal : List ℕ → List ℕ → List Line → ℕ → ℕ → ℕ → ℕ → Type 0
RowsRefusal places lens ls start end category r =
    (b : Board) → valid b ≡ true → Known b places → Lengths b lens → r ≡ lines_refusal b ls start end category

-- r is the refusal of a commitment of the first `count` rows, on any board that keeps the rules or not, as `right` says, and has
-- these places and as many bookings where it keeps them
abbrev pub CommitRefusal : Bool → List ℕ → List ℕ → List Row → ℕ → ℕ → ℕ → ℕ → ℕ → Type 0
CommitRefusal right places lens slate count start end category r =
    (b : Board) → right ≡ valid b → (valid b ≡ true → Known b places × Lengths b lens)
    → r ≡ commit_refusal b slate count start end category
