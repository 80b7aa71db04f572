-- The places of a resource and its companions, as the code keeps them.
use Rattle.std.specs.Prelude.{ℕ, cond, List, ◌∷◌, map, slice_index, slice_index_or, Option, Some, None}
use Rattle.cells.specs.Every.{every}
use Rattle.board.specs.Places.{has_place}

abbrev pub place_in : List ℕ → ℕ → ℕ
place_in places n = slice_index places n

-- the place of the i-th of a resource and its companions, the resource itself first; none where a companion has none
unfoldable pub seat_of : ℕ → List ℕ → List ℕ → ℕ → Option ℕ
seat_of own companions places i =
    cond (every (has_place places) companions) (Some (slice_index_or (own ∷ map (place_in places) companions) i own)) None
