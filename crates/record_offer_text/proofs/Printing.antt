-- Entries printed one behind the other.
use mathlib.Core.Path.{◌≡◌, sym, ap, ◌∙◌}
use mathlib.Core.List.{List, [], ◌∷◌, ◌++◌, append_assoc, append-nil}
use Prim.Native.Nat.{ℕ, ◌+◌, ◌<◌}
use native.Mathlib.Numerals.{add-one}
use lib.ListN.{length, get_or, take}
use lib.Seq.{take-suc}
use Rattle.record_offer_text.specs.Lines.{entry_text, entries_text}
use Rattle.scheduler.specs.Rows.{Row}

entries-snoc : (rows : List Row) (row : Row) → entries_text (rows ++ (row ∷ [])) ≡ entries_text rows ++ entry_text row
unfolding entries_text
entries-snoc [] row = append-nil (entry_text row)
entries-snoc (r ∷ rows) row = ap (λ (t : List ℕ). entry_text r ++ t) (entries-snoc rows row) ∙ sym (append_assoc (entry_text r) (entries_text rows) (entry_text row))

-- one entry more
pub entries-more : (slate : List Row) (i : ℕ) → i < length slate
    → entries_text (take i slate) ++ entry_text (get_or slate i []) ≡ entries_text (take (i + 1) slate)
entries-more slate i h =
    sym (entries-snoc (take i slate) (get_or slate i [])) ∙ ap entries_text (sym (take-suc slate i [] h) ∙ ap (λ (k : ℕ). take k slate) (sym (add-one i)))
