-- 01, 'Fitting': what the fitters are given and what they answer.
use Rattle.std.specs.Prelude.{ℕ, ◌≤◌, ◌<◌, ◌≡◌, Bool, true, List, length, get_or, Option, Some, None}
use Rattle.calendar.specs.declared.Calendar.{Calendar}
use Rattle.calendar.specs.Limits.{last_asked, longest_span}
use Rattle.calendar.specs.Valid as calendar
use Rattle.calendar.specs.Search.{Found, nothing, at}
use Rattle.timeline.specs.Ask as asking
use Rattle.board.specs.declared.Board.{Board}
use Rattle.board.specs.Resources.{on_board}
use Rattle.board.specs.Valid as board
use Rattle.board.specs.Places.{Known}
use Rattle.scheduler.specs.declared.Entry.{Entry}
use Rattle.scheduler.specs.Alone.{Share}
use Rattle.scheduler.specs.Fitting.{fitting, end_of}
use Rattle.place_entries.specs.declared.joining.Entries.{Entries}
use Rattle.scheduler.specs.Entries.{no_entry}

-- n entries, for resources on the board and one unit or more each
pub record EntriesOn (b : Board) (es : List Entry) (n : ℕ) : Type 0 where
  pub few : n ≤ 24
  pub long : length es ≡ 24
  pub each : (k : ℕ) → k < n → (on_board b (get_or es k no_entry).number ≡ true) × (1 ≤ (get_or es k no_entry).units)

-- a board and an order's own calendar that keep the rules, entries on the board, and an instant and a span that may be asked
abbrev pub Fittable : Board → List ℕ → Calendar → Entries → ℕ → ℕ → Type 0
Fittable b places own e from span =
    (board.valid b ≡ true) × Known b places × (calendar.valid own ≡ true)
    × EntriesOn b e.entries e.count × (from ≤ last_asked) × (span ≤ longest_span)

-- a start with its end
unfoldable pub with_end : Bool → List Share → Calendar → ℕ → Found → asking.AskReply
with_end resumable xs own span nothing = asking.none
with_end resumable xs own span (at s) = asking.ended s (end_of resumable xs own span s)

-- the least start that suits all, with its end
unfoldable pub closing : Bool → List Share → Calendar → ℕ → ℕ → asking.AskReply
closing resumable xs own span from = with_end resumable xs own span (fitting resumable xs own span from)

unfoldable pub fit_of : Option (ℕ × ℕ) → asking.AskReply
fit_of (Some f) = asking.fit f.0 f.1
fit_of None = asking.none
