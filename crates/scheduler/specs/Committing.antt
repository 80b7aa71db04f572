-- The reply of committing, the board afterwards, and what it leaves of a resource.
use Rattle.std.specs.Prelude.{ℕ, ◌+◌, ◌≤◌, ◌<◌, Bool, not, ◌&&◌, ◌||◌, cond, List, [], ◌∷◌, map, length, take, leb, ltb, eqb, ◌≡◌, Option, Some, None}
use Rattle.calendar.specs.Limits.{last_instant, most_units, most_bookings}
use Rattle.timeline.specs.Book.{with_booking}
use Rattle.cells.specs.Every.{every}
use Rattle.board.specs.declared.Resource.{Resource}
use Rattle.board.specs.declared.Board.{Board}
use Rattle.board.specs.Replies.{Entered}
use Rattle.board.specs.Resources.{with_timeline, with_last, lookup, on_board}
use Rattle.board.specs.Valid as board
use Rattle.board.specs.Enter.{entered, changed}
use Rattle.scheduler.specs.Alone.{diary_of}
use Rattle.scheduler.specs.Rows.{Row, number_in, units_in, is_companion}
use Rattle.scheduler.specs.Alike.{AlikeDiary}

-- what a commitment reads of a row of the slate: the resource, the units, and whether it is a companion
pub record Line : Type 0 where
  pub number : ℕ
  pub units : ℕ
  pub companion : Bool

abbrev pub line_with : ℕ → ℕ → Bool → Line
line_with number units companion = record { number = number; units = units; companion = companion }

unfoldable pub line_of : Row → Line
line_of row = line_with (number_in row) (units_in row) (is_companion row)

-- the first `count` entries of the slate
unfoldable pub lines_of : ℕ → List Row → List Line
lines_of count slate = map line_of (take count slate)

-- how many entries a resource has
unfoldable pub entries_on : ℕ → List Line → ℕ
entries_on number [] = 0
entries_on number (l ∷ ls) = cond (eqb l.number number) 1 0 + entries_on number ls

-- 5 a resource not on the board, or category; 1 instant; 2 end ≤ start; 3 units; 4 a diary without places for all its entries
unfoldable pub lines_refusal : Board → List Line → ℕ → ℕ → ℕ → ℕ
lines_refusal b ls start end category =
    cond (not (every (λ l. on_board b l.number) ls) || ltb 15 category) 5
    (cond (ltb last_instant start || ltb last_instant end) 1
    (cond (leb end start) 2
    (cond (not (every (λ l. leb 1 l.units && leb l.units most_units) ls)) 3
    (cond (not (every (λ l. leb ((diary_of b l.number).len + entries_on l.number ls) most_bookings) ls)) 4 0))))

-- 15 before all else; no entries: accepted; 7 entry count above the slate; then the rest
unfoldable pub commit_refusal : Board → List Row → ℕ → ℕ → ℕ → ℕ → ℕ
commit_refusal b slate count start end category =
    cond (not (board.valid b)) 15
    (cond (eqb count 0) 0
    (cond (ltb (length slate) count) 7
    (lines_refusal b (lines_of count slate) start end category)))

-- non-companions with a matrix take the category
unfoldable pub last_after : Resource → Bool → ℕ → Option ℕ
last_after r companion category = cond (r.matrix.present && not companion) (Some category) r.last

unfoldable pub booked : ℕ → ℕ → ℕ → Line → Resource → Resource
booked start end category l r =
    with_last (last_after r l.companion category) (with_timeline (with_booking r.timeline start end l.units) r)

-- books each entry in turn
unfoldable pub book_all : ℕ → ℕ → ℕ → List Line → Board → Board
book_all start end category [] b = b
book_all start end category (l ∷ ls) b =
    book_all start end category ls (changed b (lookup b l.number) (booked start end category l))

-- what committing the first `count` entries of the slate replies
unfoldable pub commit_reply : Board → List Row → ℕ → ℕ → ℕ → ℕ → Entered
commit_reply b slate count start end category =
    entered (commit_refusal b slate count start end category) b (book_all start end category (lines_of count slate) b)

-- what a commitment leaves of a resource, named or not: all but the bookings, each of which is kept, and the last category
pub record Framed (r s : Resource) : Type 0 where
  pub number_same : r.number ≡ s.number
  pub kind_same : r.kind ≡ s.kind
  pub skills_same : r.skills ≡ s.skills
  pub companions_same : r.companions ≡ s.companions
  pub count_same : r.count ≡ s.count
  pub matrix_same : r.matrix ≡ s.matrix
  pub diary_alike : AlikeDiary r.timeline s.timeline

-- what is booked is in range
pub record Bookable (start end category : ℕ) : Type 0 where
  pub order : start < end
  pub range : end ≤ last_instant
  pub category_range : category ≤ 15

-- an entry that is no companion names the resource, and it has a matrix
abbrev pub takes_category : Resource → Line → Bool
takes_category r l = eqb l.number r.number && (r.matrix.present && not l.companion)
