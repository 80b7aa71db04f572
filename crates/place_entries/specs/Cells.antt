-- What is read of the cells of the entries, and of their companions' numbers.
use Rattle.std.specs.Prelude.{ℕ, ◌<◌, List, [], ◌++◌, map, take}
use Rattle.scheduler.specs.declared.Entry.{Entry}
use Rattle.scheduler.specs.Fitting.{join_each}
use Rattle.scheduler.specs.Entries.{companion_entry}
use Rattle.place_entries.specs.declared.joining.Entries.{Entries}
use Rattle.place_entries.specs.declared.Companions.{Companions}

abbrev pub entry_number : Entry → ℕ
entry_number e = e.number

-- a resource number
abbrev pub Small : ℕ → Type 0
Small n = n < 16

-- the entries that count
abbrev pub first_entries : Entries → List Entry
first_entries e = take e.count e.entries

-- the companions' numbers that count
abbrev pub numbers_in : Companions → List ℕ
numbers_in c = take c.len c.numbers

-- the entries, with these companions behind them where they are not already there, once each
abbrev pub with_joined : List Entry → List ℕ → List Entry
with_joined es cs = es ++ map companion_entry (join_each (map entry_number es) [] cs)
