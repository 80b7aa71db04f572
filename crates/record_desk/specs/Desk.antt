-- What is in hand at the start, an empty diary of capacity 1, an order of nothing, an empty board; and with one of the three changed.
use Rattle.std.specs.Prelude.{false, pos, None}
use Rattle.calendar.specs.Add.{empty}
use Rattle.timeline.specs.declared.ResourceTimeline.{ResourceTimeline}
use Rattle.timeline.specs.Diary.{new_diary}
use Rattle.activity.specs.declared.Activity.{Activity}
use Rattle.activity.specs.Order.{order_with}
use Rattle.board.specs.declared.Board.{Board}
use Rattle.board.specs.Enter.{empty_board}
use Rattle.record_desk.specs.declared.Desk.{Desk}

unfoldable pub empty_order : Activity
empty_order = order_with 0 (record { setup = 0; process = 0; teardown = 0 }) false None empty 0

unfoldable pub empty_desk : Desk
empty_desk = record { timeline = new_diary (pos 1); activity = empty_order; board = empty_board }

-- what is in hand with another diary
abbrev pub with_diary : Desk → ResourceTimeline → Desk
with_diary d t = record { timeline = t; activity = d.activity; board = d.board }

-- what is in hand with another order
abbrev pub with_order : Desk → Activity → Desk
with_order d a = record { timeline = d.timeline; activity = a; board = d.board }

-- what is in hand with another board
abbrev pub with_board : Desk → Board → Desk
with_board d b = record { timeline = d.timeline; activity = d.activity; board = b }
