-- What a record does: what is in hand afterwards, and the refusal's number, 0 for none.
use Rattle.std.specs.Prelude.{ℕ, suc, ◌+◌, ◌-◌, ◌^◌, cond, List, take, drop, ℤ, pos, negsuc, leb, ltb, eqb}
use Rattle.timeline.specs.Ask.{fit, none, refused}
use Rattle.timeline.specs.Diary.{new_diary}
use Rattle.record_bodies.specs.Numbers.{little}
use Rattle.record_diary_text.specs.Lines.{Printed, nothing, line}
use Rattle.record_diary.specs.Records.{Done, record_does}
use Rattle.board.specs.declared.Board.{Board}
use Rattle.board.specs.Replies.{Entered}
use Rattle.board.specs.Enter.{add_resource_reply, set_matrix_reply, set_transition_reply, set_initial_reply, set_transport_reply}
use Rattle.record_desk.specs.declared.Desk.{Desk}
use Rattle.record_desk.specs.Desk.{with_diary, with_order, with_board}
use Rattle.record_board.specs.Replies.{DeskStepped, Ordered}
use Rattle.record_bodies.specs.Bodies.{byte}
use Rattle.record_board.specs.Orders.{order_does, part_reply}

-- a signed number of 8 bytes
unfoldable pub signed : ℕ → ℤ
signed n = cond (ltb n (2 ^ 63)) (pos n) (negsuc (2 ^ 64 - suc n))

-- kinds 1 to 4 print nothing but a refusal
unfoldable pub refusal_of : Printed → ℕ
refusal_of nothing = 0
refusal_of (line (fit s e)) = 0
refusal_of (line none) = 0
refusal_of (line (refused n)) = n

unfoldable pub diary_told : Desk → Done → DeskStepped
diary_told d r = record { desk = with_diary d r.timeline; refusal = refusal_of r.prints }

-- as in `slot`, on the diary in hand
unfoldable pub diary_does : Desk → ℕ → List ℕ → ℕ → DeskStepped
diary_does d kind bs i = diary_told d (record_does d.timeline kind bs i)

-- accepted, the diary in hand is empty again
unfoldable pub added : Desk → Entered → DeskStepped
added d e =
    cond (eqb e.refusal 0)
    (record { desk = with_board (with_diary d (new_diary (pos 1))) e.board; refusal = 0 })
    (record { desk = d; refusal = e.refusal })

-- number (1), type (1), skills (8), count (1), then that many companions (1 each)
unfoldable pub add_does : Desk → List ℕ → ℕ → ℕ → DeskStepped
add_does d bs i count =
    added d (add_resource_reply d.board (byte bs i) (byte bs (i + 1)) (little bs (i + 2) 8) (take count (drop (i + 11) bs)) d.timeline)

-- 17 number (1), default, initial (8 each); 18 number, last, this (1 each), ms (8); 19 number, category (1 each), ms (8); 20 from, to (1
-- each), ms (8)
unfoldable pub entry_reply : Board → ℕ → List ℕ → ℕ → Entered
entry_reply b kind bs i =
    cond (eqb kind 17) (set_matrix_reply b (byte bs i) (signed (little bs (i + 1) 8)) (signed (little bs (i + 9) 8)))
    (cond (eqb kind 18) (set_transition_reply b (byte bs i) (byte bs (i + 1)) (byte bs (i + 2)) (signed (little bs (i + 3) 8)))
    (cond (eqb kind 19) (set_initial_reply b (byte bs i) (byte bs (i + 1)) (signed (little bs (i + 2) 8)))
    (set_transport_reply b (byte bs i) (byte bs (i + 1)) (little bs (i + 2) 8))))

abbrev pub entered : Desk → Entered → DeskStepped
entered d e = record { desk = with_board d e.board; refusal = e.refusal }

abbrev pub ordered : Desk → Ordered → DeskStepped
ordered d o = record { desk = with_order d o.activity; refusal = o.refusal }

-- a record of a known kind, its body beginning at index i
unfoldable pub step_reply : Desk → ℕ → List ℕ → ℕ → DeskStepped
step_reply d kind bs i =
    cond (leb kind 4) (diary_does d kind bs i)
    (cond (eqb kind 16) (add_does d bs i (byte bs (i + 10)))
    (cond (leb kind 20) (entered d (entry_reply d.board kind bs i))
    (cond (eqb kind 21) (order_does d bs i)
    (ordered d (part_reply d.activity kind bs i)))))
