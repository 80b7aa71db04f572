-- What an entry on a board answers, and a look for a diary.
use Rattle.std.specs.Prelude.{ℕ, Result}
use Rattle.calendar.specs.declared.refusal.Refusal.{Refusal}
use Rattle.calendar.specs.Replies.{refused, kept}
use Rattle.timeline.specs.declared.ResourceTimeline.{ResourceTimeline}
use Rattle.timeline.specs.Diary.{blank_diary}
use Rattle.board.specs.declared.Board.{Board}

-- the refusal's number, 0 for none, and the board, new or unchanged
pub record Entered : Type 0 where
  pub refusal : ℕ
  pub board : Board

abbrev pub entered_of : Board → Result Board Refusal → Entered
entered_of b r = record { refusal = refused r; board = kept b r }

-- the refusal's number, 0 for none, and the diary, or a blank one
pub record Looked : Type 0 where
  pub refusal : ℕ
  pub timeline : ResourceTimeline

abbrev pub looked_of : Result ResourceTimeline Refusal → Looked
looked_of r = record { refusal = refused r; timeline = kept blank_diary r }
