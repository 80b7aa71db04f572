-- Rows written one behind another at the front of a slate.
use Rattle.std.specs.Prelude.{◌≡◌, ℕ, suc, ◌+◌, ◌<◌, ◌≤◌, List, [], ◌∷◌, ◌++◌, map, length, get_or, take, drop, set}
use mathlib.Core.Path.{sym, ap, ◌∙◌}
use mathlib.Core.List.{append_assoc, map-append}
use native.Mathlib.Numerals.{add-one}
use native.Mathlib.Omega.{arith}
use lib.ListN.{length-map}
use lib.Seq.{set_at, length-take-le, take-suc, drop-cons}
use Rattle.scheduler.specs.declared.Entry.{Entry}
use Rattle.scheduler.specs.Rows.{Row, row_of}
use Rattle.scheduler.specs.Entries.{no_entry}

module _ (es : List Entry) (slate : List Row) where
  abbrev pub written : ℕ → List Row
  written i = map row_of (take i es) ++ drop i slate

  rows_long : (i : ℕ) → i ≤ length es → length (map row_of (take i es)) ≡ i
  rows_long i l = length-map (take i es) row_of ∙ length-take-le i es l

  pub written_next : (i : ℕ) → i < length es → i < length slate → set (written i) i (row_of (get_or es i no_entry)) ≡ written (i + 1)
  written_next i l m =
      let r = row_of (get_or es i no_entry) in
      rw (add-one i) (ap (λ (xs : List Row). set (map row_of (take i es) ++ xs) i r) (drop-cons slate i [] m)
      ∙ set_at (map row_of (take i es)) (get_or slate i []) (drop (suc i) slate) r i (rows_long i (omega arith))
      ∙ sym (ap (λ (xs : List Entry). map row_of xs ++ drop (suc i) slate) (take-suc es i no_entry l) ∙ ap (λ (xs : List Row). xs ++ drop (suc i) slate) (map-append row_of (take i es) (get_or es i no_entry ∷ [])) ∙ append_assoc (map row_of (take i es)) (r ∷ []) (drop (suc i) slate)))
