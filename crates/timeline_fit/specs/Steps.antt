-- What the search of an unbroken span answers.
use Rattle.std.specs.Prelude.{ℕ, Option, Some, None}
use Rattle.calendar.specs.Search.{Found, nothing, at}

-- in 01's words
abbrev pub start_of : Option ℕ → Found
start_of (Some s) = at s
start_of None = nothing
