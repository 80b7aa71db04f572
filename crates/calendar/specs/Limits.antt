-- The limits of document 01, each said once.
use Rattle.std.specs.Prelude.{ℕ, ◌^◌, ◌≤◌}

-- an instant is whole milliseconds, 0 to 2^42
abbrev pub last_instant : ℕ
last_instant = 2 ^ 42

-- up to 32 windows and 32 blocks
abbrev pub most_spans : ℕ
most_spans = 32

-- a diary holds 64 bookings, of 1 to 10,000 units; a requirement's usage has the same range
abbrev pub most_bookings : ℕ
most_bookings = 64

abbrev pub most_units : ℕ
most_units = 10000

-- units that may be booked
abbrev pub UnitsInRange : ℕ → Type 0
UnitsInRange units = (1 ≤ units) × (units ≤ most_units)

-- asked: from 0 to 2^43, a span 0 to 2^53
abbrev pub last_asked : ℕ
last_asked = 2 ^ 43

abbrev pub longest_span : ℕ
longest_span = 2 ^ 53

-- setup, process, teardown, transport: 0 to 2^36 ms each
abbrev pub longest_duration : ℕ
longest_duration = 2 ^ 36

-- not one of them: 2^63, after every instant that can be reached, stands for 'none' where numbers are kept
abbrev pub never : ℕ
never = 2 ^ 63
