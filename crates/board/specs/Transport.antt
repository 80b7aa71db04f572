-- 'Durations, setups, transport': the transport to a resource from the places come from.
use Rattle.std.specs.Prelude.{ℕ, zero, suc, ◌+◌, ◌*◌, Bool, cond, ◌&&◌, List, [], ◌∷◌, ◌++◌, map, get_or}
use Rattle.calendar.specs.Search.{greatest_of}
use Rattle.calendar.specs.Sets.{bit}
use Rattle.board.specs.declared.Board.{Board}
use Rattle.board.specs.Resources.{on_board}

-- the places come from: those of the first n numbers that are in the set and pass the test
unfoldable pub places_from : (ℕ → Bool) → ℕ → ℕ → List ℕ
places_from on origins zero = []
places_from on origins (suc n) = places_from on origins n ++ cond (bit origins n && on n) (n ∷ []) []

-- the greatest over them, 0 where none
unfoldable pub greatest_transport : (ℕ → Bool) → List ℕ → ℕ → ℕ → ℕ → ℕ
greatest_transport on transport origins to n = greatest_of (map (λ from. get_or transport (16 * from + to) 0) (places_from on origins n))

-- bits off the board are ignored
abbrev pub transport_to : Board → ℕ → ℕ → ℕ
transport_to b origins to = greatest_transport (on_board b) b.transport origins to 16
