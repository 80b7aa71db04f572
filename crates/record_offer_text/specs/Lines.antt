-- What an answer of `offer` prints, as bytes (docs/RECORDS.md).
use Rattle.std.specs.Prelude.{ℕ, ◌+◌, ◌*◌, List, [], ◌∷◌, ◌++◌, take}
use Rattle.record_texts.specs.Text.{decimal}
use Rattle.timeline.specs.Ask.{none, refused}
use Rattle.record_diary_text.specs.Lines as slot
use Rattle.scheduler.specs.Rows.{Row, number_in, setup_in, units_in, companion_in}
use Rattle.placing.specs.declared.Placed.{Placed}
use Rattle.record_offer.specs.Replies.{OfferAnswer}
use Rattle.record_offer.specs.Replies as answer
use Rattle.record_offer.specs.Offers.{shown}

-- a space and a number
abbrev pub value : ℕ → List ℕ
value n = 32 ∷ decimal n

-- `placed CHOOSING START END COUNT`; 10 is the line's end
unfoldable pub placed_text : Placed → List ℕ
placed_text p =
    (112 ∷ 108 ∷ 97 ∷ 99 ∷ 101 ∷ 100 ∷ [])
    ++ (value p.choosing ++ (value p.start ++ (value p.end ++ (value p.count ++ (10 ∷ [])))))

-- `chosen CHOOSING none`
unfoldable pub chosen_text : ℕ → List ℕ
chosen_text t = (99 ∷ 104 ∷ 111 ∷ 115 ∷ 101 ∷ 110 ∷ []) ++ (value t ++ (32 ∷ 110 ∷ 111 ∷ 110 ∷ 101 ∷ 10 ∷ []))

-- `entry NUMBER SETUP UNITS COMPANION`, of a row of the slate
unfoldable pub entry_text : Row → List ℕ
entry_text row =
    (101 ∷ 110 ∷ 116 ∷ 114 ∷ 121 ∷ [])
    ++ (value (number_in row) ++ (value (setup_in row) ++ (value (units_in row) ++ (value (companion_in row) ++ (10 ∷ [])))))

unfoldable pub entries_text : List Row → List ℕ
entries_text [] = []
entries_text (row ∷ rows) = entry_text row ++ entries_text rows

-- `none` and `refused N` as in `slot`; `committed`
unfoldable pub line_text : OfferAnswer → List ℕ
line_text answer.Nothing = []
line_text (answer.Placed p) = placed_text p
line_text (answer.Chosen t) = chosen_text t
line_text answer.None = slot.text_of (slot.line none)
line_text answer.Committed = 99 ∷ 111 ∷ 109 ∷ 109 ∷ 105 ∷ 116 ∷ 116 ∷ 101 ∷ 100 ∷ 10 ∷ []
line_text (answer.Refused n) = slot.text_of (slot.line (refused n))

-- the most bytes of the line, of an entry, and of both with 24 entries
abbrev pub line_most : ℕ
line_most = 91

abbrev pub entry_most : ℕ
entry_most = 90

abbrev pub text_most : ℕ
text_most = line_most + 24 * entry_most

-- the line, and behind a placement's its entries
unfoldable pub text_of : OfferAnswer → List Row → List ℕ
text_of a slate = line_text a ++ entries_text (take (shown a) slate)
