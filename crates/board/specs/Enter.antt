-- An empty board, and the replies of 'Board entries': 15 before all else, then 5, 1 and 4 in 01's order.
use Rattle.std.specs.Prelude.{ℕ, zero, suc, ◌+◌, ◌*◌, Bool, true, not, cond, ◌&&◌, ◌||◌, List, length, set, replicate, leb, ltb, ℤ, pos, negsuc}
use Rattle.cells.specs.Every.{every}
use Rattle.calendar.specs.Limits.{longest_duration}
use Rattle.calendar.specs.Search.{Found, nothing, at}
use Rattle.timeline.specs.declared.ResourceTimeline.{ResourceTimeline}
use Rattle.timeline.specs.Valid as timeline
use Rattle.timeline.specs.Diary.{blank_diary}
use Rattle.board.specs.declared.TransitionMatrix.{TransitionMatrix}
use Rattle.board.specs.declared.Resource.{Resource}
use Rattle.board.specs.declared.Board.{Board}
use Rattle.board.specs.Replies.{Entered}
use Rattle.board.specs.Replies.{Looked}
use Rattle.board.specs.Resources.{blank_resource, new_resource, with_timeline, with_matrix, resource_at, lookup, on_board}
use Rattle.board.specs.Valid.{duration_right, entry_right, valid}

unfoldable pub empty_board : Board
empty_board = record { resources = replicate 16 blank_resource; len = 0; transport = replicate 256 0 }

-- a refusal carries its number and changes nothing
unfoldable pub entered : ℕ → Board → Board → Entered
entered zero b after = record { refusal = 0; board = after }
entered (suc n) b after = record { refusal = suc n; board = b }

abbrev pub with_resource : Board → ℕ → Resource → Board
with_resource b i r = record { resources = set b.resources i r; len = b.len; transport = b.transport }

-- the board with the resource at this place changed
unfoldable pub changed : Board → Found → (Resource → Resource) → Board
changed b nothing f = b
changed b (at i) f = with_resource b i (f (resource_at b i))

-- 5 a number above 15, the companions' too; 4 a number the board already has, or more than four companions
unfoldable pub add_refusal : Board → ℕ → List ℕ → ResourceTimeline → ℕ
add_refusal b number companions t =
    cond (not (valid b) || not (timeline.valid t)) 15
    (cond (ltb 15 number || not (every (λ companion. leb companion 15) companions)) 5
    (cond (on_board b number || ltb 4 (length companions)) 4 0))

-- the new resource goes last
unfoldable pub with_new : Board → Resource → Board
with_new b r = record { resources = set b.resources b.len r; len = b.len + 1; transport = b.transport }

unfoldable pub add_resource_reply : Board → ℕ → ℕ → ℕ → List ℕ → ResourceTimeline → Entered
add_resource_reply b number kind skills companions t =
    entered (add_refusal b number companions t) b (with_new b (new_resource number kind skills companions t))

-- 5 not on the board; 1 a duration outside 0 to 2^36
unfoldable pub matrix_refusal : Board → ℕ → ℤ → ℤ → ℕ
matrix_refusal b number default initial =
    cond (not (valid b)) 15
    (cond (not (on_board b number)) 5
    (cond (not (duration_right default && duration_right initial)) 1 0))

-- a matrix with every entry absent
abbrev pub new_matrix : ℤ → ℤ → TransitionMatrix
new_matrix default initial = record {
  present = true;
  default = default;
  initial = initial;
  transitions = replicate 256 (negsuc 0);
  initials = replicate 16 (negsuc 0);
}

unfoldable pub set_matrix_reply : Board → ℕ → ℤ → ℤ → Entered
set_matrix_reply b number default initial =
    entered (matrix_refusal b number default initial) b (changed b (lookup b number) (with_matrix (new_matrix default initial)))

-- 5 not on the board, or a category above 15; 1 a duration outside 0 to 2^36 and not -1
unfoldable pub entry_refusal : Board → ℕ → Bool → ℤ → ℕ
entry_refusal b number categories ms =
    cond (not (valid b)) 15
    (cond (not (on_board b number && categories)) 5
    (cond (not (entry_right ms)) 1 0))

-- a resource with no matrix yet gets one with default and initial 0
unfoldable pub matrix_of : TransitionMatrix → TransitionMatrix
matrix_of m = cond m.present m (new_matrix (pos 0) (pos 0))

abbrev pub with_transition : ℕ → ℕ → ℤ → TransitionMatrix → TransitionMatrix
with_transition last this ms m = record {
  present = m.present;
  default = m.default;
  initial = m.initial;
  transitions = set m.transitions (16 * last + this) ms;
  initials = m.initials;
}

abbrev pub with_initial : ℕ → ℤ → TransitionMatrix → TransitionMatrix
with_initial category ms m = record {
  present = m.present;
  default = m.default;
  initial = m.initial;
  transitions = m.transitions;
  initials = set m.initials category ms;
}

unfoldable pub set_transition_reply : Board → ℕ → ℕ → ℕ → ℤ → Entered
set_transition_reply b number last this ms =
    entered (entry_refusal b number (leb last 15 && leb this 15) ms) b
    (changed b (lookup b number) (λ r. with_matrix (with_transition last this ms (matrix_of r.matrix)) r))

unfoldable pub set_initial_reply : Board → ℕ → ℕ → ℤ → Entered
set_initial_reply b number category ms =
    entered (entry_refusal b number (leb category 15) ms) b
    (changed b (lookup b number) (λ r. with_matrix (with_initial category ms (matrix_of r.matrix)) r))

-- 5 either of the two not on the board; 1 a duration above 2^36
unfoldable pub transport_refusal : Board → ℕ → ℕ → ℕ → ℕ
transport_refusal b from to ms =
    cond (not (valid b)) 15
    (cond (not (on_board b from && on_board b to)) 5
    (cond (ltb longest_duration ms) 1 0))

abbrev pub with_transport : Board → ℕ → ℕ → ℕ → Board
with_transport b from to ms = record { resources = b.resources; len = b.len; transport = set b.transport (16 * from + to) ms }

unfoldable pub set_transport_reply : Board → ℕ → ℕ → ℕ → Entered
set_transport_reply b from to ms = entered (transport_refusal b from to ms) b (with_transport b from to ms)

-- the diary of a resource; a refusal comes with a blank one
unfoldable pub looked_at : Board → Found → Looked
looked_at b nothing = record { refusal = 5; timeline = blank_diary }
looked_at b (at i) = record { refusal = 0; timeline = (resource_at b i).timeline }

unfoldable pub timeline_of_reply : Board → ℕ → Looked
timeline_of_reply b number = cond (not (valid b)) (record { refusal = 15; timeline = blank_diary }) (looked_at b (lookup b number))

-- 15 the board or the diary; 5 not on the board
unfoldable pub put_refusal : Board → ℕ → ResourceTimeline → ℕ
put_refusal b number t = cond (not (valid b) || not (timeline.valid t)) 15 (cond (not (on_board b number)) 5 0)

unfoldable pub put_timeline_reply : Board → ℕ → ResourceTimeline → Entered
put_timeline_reply b number t = entered (put_refusal b number t) b (changed b (lookup b number) (with_timeline t))
