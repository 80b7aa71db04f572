-- How the code names those held: by their places on the board.
use Rattle.std.specs.Prelude.{ℕ, ◌≤◌, ◌<◌, List, map, get_or, take}
use Rattle.board.specs.declared.Board.{Board}
use Rattle.board.specs.Resources.{resource_at}
use Rattle.scheduler.specs.declared.Selection.{Selection}
use Rattle.scheduler.specs.Choosing.{Held}

-- what is read past an array's end
abbrev pub no_selection : Selection
no_selection = record { place = 0; start = 0; usage = 0 }

unfoldable pub held_of : Board → Selection → Held
held_of b h = record { start = h.start; resource = resource_at b h.place; usage = h.usage }

-- those in the first n cells
abbrev pub held_to : Board → List Selection → ℕ → List Held
held_to b hs n = map (held_of b) (take n hs)

-- the first n stand on the board, and at least a unit is wanted of each
pub record OnPlaces (b : Board) (hs : List Selection) (n : ℕ) : Type 0 where
  pub stands : (k : ℕ) → k < n → (get_or hs k no_selection).place < b.len
  pub some : (k : ℕ) → k < n → 1 ≤ (get_or hs k no_selection).usage
