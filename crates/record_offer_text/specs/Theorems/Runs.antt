-- A placement of one entry, printed: `placed 0 5 12 1`, `entry 3 2 1 0`.
use Rattle.std.specs.Prelude.{◌≡◌, refl, [], ◌∷◌}
use Rattle.record_texts.specs.Text.{decimal_to}
use Rattle.scheduler.specs.Entries.{held_entry}
use Rattle.scheduler.specs.Rows.{row_of}
use Rattle.record_offer.specs.Replies.{Placed}
use Rattle.record_offer.specs.Offers.{shown}
use Rattle.record_offer_text.specs.Lines.{placed_text, entry_text, entries_text, line_text, text_of}

pub example : text_of (Placed (record { choosing = 0; start = 5; end = 12; count = 1 })) (row_of (held_entry 3 2 1) ∷ row_of (held_entry 9 9 9) ∷ [])
    ≡ 112 ∷ 108 ∷ 97 ∷ 99 ∷ 101 ∷ 100 ∷ 32 ∷ 48 ∷ 32 ∷ 53 ∷ 32 ∷ 49 ∷ 50 ∷ 32 ∷ 49 ∷ 10
    ∷ 101 ∷ 110 ∷ 116 ∷ 114 ∷ 121 ∷ 32 ∷ 51 ∷ 32 ∷ 50 ∷ 32 ∷ 49 ∷ 32 ∷ 48 ∷ 10 ∷ []
unfolding row_of decimal_to shown placed_text entry_text entries_text line_text text_of
example = refl
