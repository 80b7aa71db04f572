-- When a board keeps the rules: its length, each resource's number, companions, diary, matrix and last category, no number twice, the
-- transport, and 0 in every cell past a length.
use Rattle.std.specs.Prelude.{ℕ, ◌/◌, ◌%◌, Bool, true, false, not, cond, ◌&&◌, ◌||◌, List, get_or, leb, ltb, eqb, ℤ, pos, negsuc, Option, Some, None}
use Rattle.calendar.specs.Limits.{longest_duration}
use Rattle.cells.specs.Every.{every_from}
use Rattle.timeline.specs.declared.ResourceTimeline.{ResourceTimeline}
use Rattle.timeline.specs.Valid as timeline
use Rattle.board.specs.declared.TransitionMatrix.{TransitionMatrix}
use Rattle.board.specs.declared.Resource.{Resource}
use Rattle.board.specs.declared.Board.{Board}
use Rattle.board.specs.Resources.{resource_at, number_at, lookup_to, on_board}
use Rattle.calendar.specs.Search.{is_at}

-- a duration: 0 to 2^36
unfoldable pub duration_right : ℤ → Bool
duration_right (pos ms) = leb ms longest_duration
duration_right (negsuc k) = false

-- an entry of a matrix: a duration, or -1
unfoldable pub entry_right : ℤ → Bool
entry_right (pos ms) = leb ms longest_duration
entry_right (negsuc k) = eqb k 0

unfoldable pub is_zero : ℤ → Bool
is_zero (pos n) = eqb n 0
is_zero (negsuc k) = false

-- where there is no matrix, every cell is 0
abbrev pub own_right : Bool → ℤ → Bool
own_right present ms = cond present (duration_right ms) (is_zero ms)

abbrev pub entry_cell : Bool → ℤ → Bool
entry_cell present ms = cond present (entry_right ms) (is_zero ms)

unfoldable pub matrix_right : TransitionMatrix → Bool
matrix_right m =
    own_right m.present m.default
    && (own_right m.present m.initial
    && (every_from (λ i. entry_cell m.present (get_or m.transitions i (pos 0))) 0 256
    && every_from (λ i. entry_cell m.present (get_or m.initials i (pos 0))) 0 16))

-- up to 4 companions, numbered 0 to 15
abbrev pub companion_cell : ℕ → ℕ → ℕ → Bool
companion_cell n i companion = cond (ltb i n) (leb companion 15) (eqb companion 0)

unfoldable pub companions_right : List ℕ → ℕ → Bool
companions_right cs n = leb n 4 && every_from (λ i. companion_cell n i (get_or cs i 0)) 0 4

-- categories are 0 to 15
unfoldable pub last_right : Option ℕ → Bool
last_right None = true
last_right (Some c) = leb c 15

unfoldable pub resource_right : Resource → Bool
resource_right r =
    leb r.number 15
    && (companions_right r.companions r.count
    && (timeline.valid r.timeline
    && (matrix_right r.matrix
    && last_right r.last)))

-- a calendar with no windows, no blocks and 0 in every cell
-- capacity 0 and nothing in it: no booking, no window, no block, and 0 in every cell
unfoldable pub diary_blank : ResourceTimeline → Bool
diary_blank t =
    eqb t.capacity 0
    && (eqb t.len 0
    && (eqb t.calendar.windows.len 0
    && (eqb t.calendar.blocks.len 0
    && timeline.contents_right t)))

unfoldable pub last_blank : Option ℕ → Bool
last_blank None = true
last_blank (Some c) = false

-- a cell past the length: 0 throughout, its capacity too
unfoldable pub resource_blank : Resource → Bool
resource_blank r =
    eqb r.number 0
    && (eqb r.kind 0
    && (eqb r.skills 0
    && (eqb r.count 0
    && (companions_right r.companions 0
    && (diary_blank r.timeline
    && (not r.matrix.present
    && (matrix_right r.matrix
    && last_blank r.last)))))))

-- a resource whose number none before it has; past the length a blank
unfoldable pub cell_right : Board → ℕ → Bool
cell_right b i =
    cond (ltb i b.len) (resource_right (resource_at b i) && not (is_at (lookup_to b i (number_at b i))))
    (resource_blank (resource_at b i))

-- cell 16 * from + to: 0 to 2^36, and 0 between numbers that are not both on the board
abbrev pub transport_cell : ℕ → Bool → Bool → Bool
transport_cell ms from to = leb ms longest_duration && (from && to || eqb ms 0)

unfoldable pub transport_right : Board → ℕ → Bool
transport_right b k = transport_cell (get_or b.transport k 0) (on_board b (k / 16)) (on_board b (k % 16))

unfoldable pub valid : Board → Bool
valid b = leb b.len 16 && (every_from (cell_right b) 0 16 && every_from (transport_right b) 0 256)
