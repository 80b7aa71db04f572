-- The checks of the rows of a slate, and what they say of its lines.
use mathlib.Core.Path.{◌≡◌, refl, sym, ap, ◌∙◌, fun_ext}
use mathlib.Core.Bool.{Bool, true, false, ◌&&◌, cond}
use mathlib.Core.List.{List, [], ◌∷◌, ◌++◌, map, map-append}
use mathlib.Core.Logic.{⊎_elim}
use Prim.Native.Nat.{ℕ, zero, suc, ◌+◌, ◌≤◌, ◌<◌}
use native.Mathlib.Omega.{arith}
use lib.ListN.{length, get_or, set, take, replicate, get_or-replicate}
use lib.Dec.{leb, ltb, eqb}
use lib.Seq.{take-length, get_or-set_same, get_or-set_other}
use borrow.Author.Tests.{ltb-true, lt-ltb, eq-eqb, ne_eqb}
use Rattle.cells.specs.Laws.Basics.{and_split, same_or_not, both_ways, take_next}
use Rattle.cells.specs.Every.{every}
use Rattle.cells.specs.Laws.Every.{every_map, every-where}
use Rattle.board.specs.declared.Board.{Board}
use Rattle.calendar.specs.Search.{is_at}
use Rattle.board.specs.Resources.{on_board}
use Rattle.board.specs.Valid.{valid}
use Rattle.board.specs.Laws.Facts.{rules_of}
use Rattle.scheduler.specs.Alone.{diary_of}
use Rattle.scheduler.specs.Rows.{Row, number_in}
use Rattle.scheduler.specs.Committing.{Line, line_of, lines_of, entries_on}
use Rattle.scheduler.specs.Laws.Ruled.{diary-at}
use Rattle.board.specs.Laws.Knowing.{place-of, number-place}
use Rattle.board.specs.Places.{Known, Lengths}
use Rattle.commit_checks.specs.Lines.{numbered, metered, roomy, Counted}

-- the lines are the first rows, read one by one
lines_rows : (n : ℕ) (slate : List Row) → lines_of n slate ≡ map line_of (take n slate)
unfolding lines_of
lines_rows n slate = refl

lines_all : (rows : List Row) → lines_of (length rows) rows ≡ map line_of rows
lines_all rows = lines_rows (length rows) rows ∙ ap (map line_of) (take-length rows)

-- one row
module _ (places : List ℕ) (row : Row) where
  pub number-on : number_in row < 16 → get_or places (number_in row) 0 < 16 → numbered places row ≡ true
  unfolding numbered
  number-on l m = rw (lt-ltb (number_in row) 16 l, lt-ltb (get_or places (number_in row) 0) 16 m) refl

  pub number_is : numbered places row ≡ true → (number_in row < 16) × (get_or places (number_in row) 0 < 16)
  unfolding numbered
  number_is e =
      let w = and_split (ltb (number_in row) 16) (ltb (get_or places (number_in row) 0) 16) e in
      (ltb-true (number_in row) 16 w.0, ltb-true (get_or places (number_in row) 0) 16 w.1)

-- how many name each number: one row more
entries-more : (k : ℕ) (ls : List Line) (l : Line) → entries_on k (ls ++ (l ∷ [])) ≡ entries_on k ls + cond (eqb l.number k) 1 0
unfolding entries_on
entries-more k [] l = omega arith
entries-more k (x ∷ ls) l = omega (arith, entries-more k ls l)

lines_next : (slate : List Row) (i : ℕ) → i < length slate → lines_of (i + 1) slate ≡ lines_of i slate ++ (line_of (get_or slate i []) ∷ [])
lines_next slate i l = lines_rows (i + 1) slate ∙ ap (map line_of) (take_next slate i [] l) ∙ map-append line_of (take i slate) (get_or slate i [] ∷ []) ∙ sym (ap (λ (ls : List Line). ls ++ (line_of (get_or slate i []) ∷ [])) (lines_rows i slate))

pub entries-few : (k n : ℕ) (slate : List Row) → entries_on k (lines_of n slate) ≤ n
unfolding entries_on lines_of
entries-few k zero slate = omega arith
entries-few k (suc n) [] = omega arith
entries-few k (suc n) (row ∷ slate) = go (eqb (line_of row).number k) (entries-few k n slate)
  where
    go : (q : Bool) → entries_on k (lines_of n slate) ≤ n → cond q 1 0 + entries_on k (lines_of n slate) ≤ suc n
    go true h = omega arith
    go false h = omega arith

pub counted_none : (slate : List Row) → Counted slate 0 (replicate 16 0)
unfolding entries_on lines_of
counted_none slate k l = get_or-replicate {A = ℕ} 16 k 0 0 l

pub counted_next : (slate : List Row) (i : ℕ) (tally : List ℕ) → length tally ≡ 16 → i < length slate → number_in (get_or slate i []) < 16 → Counted slate i tally
    → Counted slate (i + 1) (set tally (number_in (get_or slate i [])) (get_or tally (number_in (get_or slate i [])) 0 + 1))
unfolding line_of
counted_next slate i tally long l m h k n =
    sym (ap (entries_on k) (lines_next slate i l) ∙ entries-more k (lines_of i slate) (line_of (get_or slate i []))
    ∙ ⊎_elim
    (λ (z : number ≡ k).
    rw (eq-eqb number k z, ← h k n, ← z) (sym (get_or-set_same tally number (get_or tally number 0 + 1) 0 (omega (arith, long)))))
    (λ (z : k ≡ number → ⊥).
    rw (ne_eqb number k (λ e. z (sym e)), ← h k n) (plain ∙ sym (get_or-set_other tally number k (get_or tally number 0 + 1) 0 z)))
    (same_or_not number k))
  where
    number : ℕ
    number = number_in (get_or slate i [])

    plain : get_or tally k 0 + 0 ≡ get_or tally k 0
    plain = omega arith

-- the checks of the rows are those of the lines
module _ (b : Board) (v : valid b ≡ true) (places : List ℕ) (known : Known b places) where
  -- a number with a place is on the board
  numbered_is : (row : Row) → numbered places row ≡ on_board b (line_of row).number
  unfolding line_of is_at
  numbered_is row =
      both_ways (numbered places row) (on_board b (number_in row))
      (λ e. let w = number_is places row e in ap is_at (place-of b v places known (number_in row) w.0 w.1))
      (λ o. let w = number-place b v places known (number_in row) o in number-on places row w.0 (omega (arith, w.2, (rules_of b v).few)))

  pub numbers-lines : (rows : List Row) → every (numbered places) rows ≡ every (λ l. on_board b l.number) (lines_of (length rows) rows)
  numbers-lines rows =
      ap (λ (T : List ℕ → Bool). every T rows) (fun_ext numbered_is)
      ∙ sym (every_map (λ l. on_board b l.number) line_of rows)
      ∙ sym (ap (every (λ (l : Line). on_board b l.number)) (lines_all rows))

  module _ (lens tally : List ℕ) (rows : List Row) (long : Lengths b lens) (counted : Counted rows (length rows) tally) where
    abbrev ls : List Line
    ls = lines_of (length rows) rows

    roomy-is : (row : Row) → numbered places row ≡ true → roomy places lens tally row ≡ leb ((diary_of b (line_of row).number).len + entries_on (line_of row).number ls) 64
    unfolding roomy line_of
    roomy-is row e =
        let w = number-place b v places known (number_in row) (sym (numbered_is row) ∙ e) in
        rw (counted (number_in row) w.0, long (get_or places (number_in row) 0) w.2, diary-at b (number_in row) (get_or places (number_in row) 0) w.1) refl

    pub room-lines : every (numbered places) rows ≡ true → every (roomy places lens tally) rows ≡ every (λ l. leb ((diary_of b l.number).len + entries_on l.number ls) 64) ls
    room-lines e =
        every-where (numbered places) (roomy places lens tally) (λ row. leb ((diary_of b (line_of row).number).len + entries_on (line_of row).number ls) 64) rows roomy-is e
        ∙ sym (every_map (λ l. leb ((diary_of b l.number).len + entries_on l.number ls) 64) line_of rows)
        ∙ sym (ap (every (λ (l : Line). leb ((diary_of b l.number).len + entries_on l.number ls) 64)) (lines_all rows))

pub units-lines : (rows : List Row) → every metered rows ≡ every (λ l. leb 1 l.units && leb l.units 10000) (lines_of (length rows) rows)
unfolding metered line_of
units-lines rows =
    sym (every_map (λ l. leb 1 l.units && leb l.units 10000) line_of rows)
    ∙ sym (ap (every (λ (l : Line). leb 1 l.units && leb l.units 10000)) (lines_all rows))
