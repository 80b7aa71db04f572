-- A row of a slate: how an entry stands on it, and what is read of it. Which word is which, and how many there are, is said here alone.
use Rattle.std.specs.Prelude.{ℕ, Bool, not, cond, List, [], ◌∷◌, get_or, eqb}
use Rattle.scheduler.specs.declared.Entry.{Entry}

-- the words of a row
abbrev pub Row : Type 0
Row = List ℕ

-- an entry on the slate: number, setup, units, companion 0 or 1
unfoldable pub row_of : Entry → Row
row_of e = e.number ∷ e.setup ∷ e.units ∷ cond e.companion 1 0 ∷ []

abbrev pub number_in : Row → ℕ
number_in row = get_or row 0 0

abbrev pub setup_in : Row → ℕ
setup_in row = get_or row 1 0

abbrev pub units_in : Row → ℕ
units_in row = get_or row 2 0

abbrev pub companion_in : Row → ℕ
companion_in row = get_or row 3 0

-- any word but 0
abbrev pub is_companion : Row → Bool
is_companion row = not (eqb (companion_in row) 0)
