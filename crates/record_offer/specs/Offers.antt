-- What a record does in `offer` (docs/RECORDS.md): kinds 1 to 4 and 16 to 24 as elsewhere, 25 places the order in hand on the slate, 26
-- commits entries of the slate.
use Rattle.std.specs.Prelude.{◌≡◌, ℕ, ◌+◌, ◌-◌, ◌≤◌, true, false, not, cond, List, length, leb, eqb}
use Rattle.record_bodies.specs.Numbers.{little}
use Rattle.scheduler.specs.Placing.{Reply, slate_after, place_reply}
use Rattle.scheduler.specs.Committing.{commit_reply}
use Rattle.scheduler.specs.Rows.{Row}
use Rattle.placing.specs.Answers.{Answer, Placed, ChosenNone, None, Refused}
use Rattle.placing.specs.Told as placed
use Rattle.record_desk.specs.declared.Desk.{Desk}
use Rattle.record_board.specs.Replies.{DeskStepped}
use Rattle.record_bodies.specs.Bodies.{byte, whole, body_len}
use Rattle.record_board.specs.Records.{entered, step_reply}
use Rattle.record_offer.specs.Replies.{OfferTurn, OfferAnswer}
use Rattle.record_offer.specs.Replies as answer

-- the body that begins at index i, the input ending at index n: 0 for an unknown kind or a cut body
unfoldable pub offer_len : ℕ → List ℕ → ℕ → ℕ → ℕ
offer_len kind bs i n = cond (eqb kind 25) (whole (n - i) 8) (cond (eqb kind 26) (whole (n - i) 20) (body_len kind bs i n))

-- 25: ready (8); the order in hand is placed on the board in hand
unfoldable pub placing : Desk → List Row → List ℕ → ℕ → Reply
placing d slate bs i = place_reply d.board d.activity (little bs i 8) (length slate)

unfoldable pub answer_of : Answer → OfferAnswer
answer_of (Placed p) = answer.Placed p
answer_of (ChosenNone t) = answer.Chosen t
answer_of None = answer.None
answer_of (Refused n) = answer.Refused n

-- the numbers of a placement; 'chosen, none' with the choosing instant; none; a refusal
unfoldable pub placed_answer : Desk → List Row → List ℕ → ℕ → OfferAnswer
placed_answer d slate bs i = answer_of (placed.told (placing d slate bs i))

-- 26: count (4), start, end (8 each); the first count entries of the slate are committed with the order's category, and the board in hand
-- is the one with their bookings
unfoldable pub commit_does : Desk → List Row → List ℕ → ℕ → DeskStepped
commit_does d slate bs i =
    entered d (commit_reply d.board slate (little bs i 4) (little bs (i + 4) 8) (little bs (i + 12) 8) d.activity.category)

-- what a record answers where it is accepted; a refusal is told, and 9 ends the stream
unfoldable pub told : DeskStepped → OfferAnswer → ℕ → OfferTurn
told s a i =
    cond (eqb s.refusal 0) (record { desk = s.desk; answer = a; at = i; more = true })
    (record { desk = s.desk; answer = answer.Refused s.refusal; at = i; more = not (eqb s.refusal 9) })

unfoldable pub ends : Desk → OfferAnswer → ℕ → OfferTurn
ends d a i = record { desk = d; answer = a; at = i; more = false }

-- a record of this kind, its body beginning at index i and the next record at index j
unfoldable pub record_does : Desk → List Row → ℕ → List ℕ → ℕ → ℕ → OfferTurn
record_does d slate kind bs i j =
    cond (eqb kind 25) (record { desk = d; answer = placed_answer d slate bs i; at = j; more = true })
    (cond (eqb kind 26) (told (commit_does d slate bs i) answer.Committed j)
    (told (step_reply d kind bs i) answer.Nothing j))

-- the record that begins at index i, the input ending at index n
unfoldable pub turn_reply : Desk → List Row → List ℕ → ℕ → ℕ → OfferTurn
turn_reply d slate bs i n =
    cond (leb n i) (ends d answer.Nothing i)
    (cond (eqb (offer_len (byte bs i) bs (i + 1) n) 0) (ends d (answer.Refused 9) i)
    (record_does d slate (byte bs i) bs (i + 1) (i + 1 + offer_len (byte bs i) bs (i + 1) n)))

-- the slate afterwards: only placing writes on it
unfoldable pub slate_reply : Desk → List Row → List ℕ → ℕ → ℕ → List Row
slate_reply d slate bs i n =
    cond (leb n i) slate
    (cond (eqb (offer_len (byte bs i) bs (i + 1) n) 0) slate
    (cond (eqb (byte bs i) 25) (slate_after (placing d slate bs (i + 1)) slate) slate))

-- how many entries of the slate an answer speaks of
unfoldable pub shown : OfferAnswer → ℕ
shown answer.Nothing = 0
shown (answer.Placed p) = p.count
shown (answer.Chosen t) = 0
shown answer.None = 0
shown answer.Committed = 0
shown (answer.Refused n) = 0

-- the slate after the record that begins at index i, and all entries that its answer speaks of stand on it
abbrev pub SlateTurned : Desk → List Row → List ℕ → ℕ → ℕ → List Row → OfferAnswer → Type 0
SlateTurned d slate bs i n after a = (after ≡ slate_reply d slate bs i n) × (shown a ≤ length after)
