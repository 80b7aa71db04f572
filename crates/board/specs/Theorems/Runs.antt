-- Setups and transport, on the definitions.
use Rattle.std.specs.Prelude.{ℕ, ◌≡◌, refl, [], ◌∷◌, replicate, set, pos, Some, None}
use Rattle.calendar.specs.Search.{least_from, greatest_of, is_at}
use Rattle.board.specs.declared.TransitionMatrix.{TransitionMatrix}
use Rattle.board.specs.declared.Resource.{Resource}
use Rattle.board.specs.declared.Board.{Board}
use Rattle.timeline.specs.Diary.{blank_diary}
use Rattle.board.specs.Resources.{blank_matrix, new_resource, lookup_to}
use Rattle.board.specs.Setups.{entry_or, matrix_setup, setup_ms}
use Rattle.calendar.specs.Sets.{bit}
use Rattle.board.specs.Transport.{places_from, greatest_transport, transport_to}
use Rattle.board.specs.Enter.{new_matrix, with_transition, with_initial}

-- default 7, initial 9; the pair (1, 2) is 5, the first entry of 3 is 4, and every other entry is absent
abbrev pub matrix : TransitionMatrix
matrix = with_initial 3 (pos 4) (with_transition 1 2 (pos 5) (new_matrix (pos 7) (pos 9)))

-- the pair (1, 2) · absent: an equal pair 0, another pair the default · the first entry of 3 · absent: the initial · no matrix: the
-- order's own
pub setups :
    (setup_ms matrix (Some 1) 2 100
    ∷ setup_ms matrix (Some 1) 1 100
    ∷ setup_ms matrix (Some 2) 1 100
    ∷ setup_ms matrix None 3 100
    ∷ setup_ms matrix None 2 100
    ∷ setup_ms blank_matrix (Some 1) 2 100
    ∷ [])
    ≡ 5 ∷ 0 ∷ 7 ∷ 4 ∷ 9 ∷ 100 ∷ []
unfolding entry_or matrix_setup setup_ms
setups = refl

abbrev pub numbered : ℕ → Resource
numbered n = new_resource n 0 0 [] blank_diary

-- resources 2, 0 and 1 in board order; transport to 2: 30 from 0, 40 from 1
abbrev pub three : Board
three = record { resources = numbered 2 ∷ numbered 0 ∷ numbered 1 ∷ []; len = 3; transport = set (set (replicate 256 0) 2 30) 18 40 }

-- from 0 and 1 the greatest · from 0 alone · from 3, off the board · from nowhere · from 0 and 3
pub transports :
    (transport_to three 3 2 ∷ transport_to three 1 2 ∷ transport_to three 8 2 ∷ transport_to three 0 2 ∷ transport_to three 9 2 ∷ [])
    ≡ 40 ∷ 30 ∷ 0 ∷ 0 ∷ 30 ∷ []
unfolding bit places_from greatest_transport greatest_of lookup_to least_from is_at
transports = refl
