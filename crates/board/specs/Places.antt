-- What is read off a board once: the place of each number, and how many bookings its diaries have; and which numbers the code takes the
-- transport from.
use Rattle.std.specs.Prelude.{ℕ, ◌/◌, ◌%◌, ◌≤◌, ◌<◌, ◌≡◌, Bool, true, List, get_or, ltb}
use Rattle.calendar.specs.Search.{Found, nothing, at}
use Rattle.board.specs.declared.Board.{Board}
use Rattle.board.specs.Resources.{resource_at, lookup}
use Rattle.board.specs.Valid.{transport_cell}

-- 16 for a number that is not on the board
unfoldable pub place_of : Found → ℕ
place_of nothing = 16
place_of (at i) = i

-- the place of each number
abbrev pub Known : Board → List ℕ → Type 0
Known b places = (n : ℕ) → n < 16 → get_or places n 0 ≡ place_of (lookup b n)

-- how many bookings the diary at each place has
abbrev pub Lengths : Board → List ℕ → Type 0
Lengths b lens = (i : ℕ) → i < b.len → get_or lens i 0 ≡ (resource_at b i).timeline.len

-- no diary has more than 64 bookings
abbrev pub FewBookings : List ℕ → Type 0
FewBookings lens = (i : ℕ) → i < 16 → get_or lens i 0 ≤ 64

-- a number with a place is on the board
abbrev pub has_place : List ℕ → ℕ → Bool
has_place places n = ltb (get_or places n 0) 16

-- cell k of the transport keeps the rules, by the places
abbrev pub transport_right_by : List ℕ → List ℕ → ℕ → Bool
transport_right_by transport places k = transport_cell (get_or transport k 0) (has_place places (k / 16)) (has_place places (k % 16))

-- every number passes: off a valid board the transport is 0 (Theorems/Meaning.antt, `transport-is`)
unfoldable pub anywhere : ℕ → Bool
anywhere n = true
