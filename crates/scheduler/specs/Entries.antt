-- An entry of a placement, as it is made.
use Rattle.std.specs.Prelude.{ℕ, true, false}
use Rattle.scheduler.specs.declared.Entry.{Entry}

-- of a resource held: its number, setup and units
abbrev pub held_entry : ℕ → ℕ → ℕ → Entry
held_entry number setup units = record { number = number; setup = setup; units = units; companion = false }

-- of a companion: setup 0, unit 1
abbrev pub companion_entry : ℕ → Entry
companion_entry number = record { number = number; setup = 0; units = 1; companion = true }

-- what is read past an array's end
abbrev pub no_entry : Entry
no_entry = record { number = 0; setup = 0; units = 0; companion = false }
