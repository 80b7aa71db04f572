-- What the fitters ask one after another: the order's own calendar as a diary, then the diaries of the entries.
use Rattle.std.specs.Prelude.{◌≡◌, ℕ, true, List, ◌∷◌, take}
use Rattle.timeline.specs.declared.ResourceTimeline.{ResourceTimeline}
use Rattle.timeline.specs.Valid as timeline
use Rattle.board.specs.declared.Board.{Board}
use Rattle.board.specs.Valid.{valid}
use Rattle.board.specs.Places.{Known}
use Rattle.scheduler.specs.declared.Entry.{Entry}
use Rattle.scheduler.specs.Alone.{Share}
use Rattle.scheduler.specs.Fitting.{shares_of}
use Rattle.place_fit.specs.Closing.{EntriesOn}

-- units of a diary
abbrev pub share : ResourceTimeline → ℕ → Share
share t units = record { timeline = t; units = units }

-- the first diary is the order's own calendar
pub record Asks (b : Board) (es : List Entry) (n : ℕ) (places : List ℕ) (first : ResourceTimeline) : Type 0 where
  pub board : valid b ≡ true
  pub known : Known b places
  pub own : timeline.valid first ≡ true
  pub entries : EntriesOn b es n

abbrev pub those : Board → List Entry → ℕ → ResourceTimeline → List Share
those b es n first = share first 1 ∷ shares_of b (take n es)
