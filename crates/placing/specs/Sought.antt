-- What a fit is sought for.
use Rattle.std.specs.Prelude.{◌≡◌, ℕ, ◌≤◌, Option, Some, None}
use Rattle.calendar.specs.Limits.{last_asked, longest_span}
use Rattle.activity.specs.declared.Activity.{Activity}
use Rattle.board.specs.declared.Board.{Board}
use Rattle.scheduler.specs.Placing.{none, fitted, placing}
use Rattle.place_entries.specs.declared.Spanned.{Spanned}
use Rattle.place_entries.specs.Cells.{first_entries}
use Rattle.place_fit.specs.Closing.{EntriesOn}

-- the instant, the span and the entries with which the reply of an order goes on
pub record Stands (b : Board) (a : Activity) (ready t : ℕ) (x : Spanned) : Type 0 where
  pub entries : EntriesOn b x.entries.entries x.entries.count
  pub instant : t ≤ last_asked
  pub short : x.span ≤ longest_span
  pub reply : placing b a ready ≡ fitted b a x.span t (first_entries x.entries)

-- or none is chosen
abbrev pub Sought : Board → Activity → ℕ → Option (ℕ × Spanned) → Type 0
Sought b a ready (Some r) = Stands b a ready r.0 r.1
Sought b a ready None = placing b a ready ≡ none
