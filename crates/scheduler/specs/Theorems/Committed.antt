-- What a commitment leaves as it is, and that a committed board keeps the rules.
use Rattle.std.specs.Prelude.{◌≡◌, Bool, true, false, cond, ℕ, zero, suc, ◌+◌, ◌<◌, length, ltb, eqb}
use Rattle.std.proofs.Math.Path.{refl}
use Rattle.std.proofs.Common.{sym, ap, ◌∙◌, arith, eqb-true}
use Rattle.std.proofs.Math.Bool.{not}
use mathlib.Core.List.{List, [], ◌∷◌}
use Rattle.std.proofs.lemmas.Bool.{eqb-false, not-true}
use Rattle.cells.specs.Laws.Basics.{and_split, unrefused}
use Rattle.cells.specs.Every.{every}
use Rattle.board.specs.declared.Board.{Board}
use Rattle.board.specs.Resources.{resource_at, number_at, lookup}
use Rattle.board.specs.Valid as board
use Rattle.board.specs.Enter.{entered, changed}
use Rattle.scheduler.specs.Committing.{takes_category, Line, entries_on, lines_of, lines_refusal, commit_refusal, booked, book_all, commit_reply, Framed}
use Rattle.scheduler.specs.Laws.Committed.{step_same, step-number, step-len, step-transport, step-long, framed_self, framed-on, step-framed, step-last, all_keep, all-fine}
use Rattle.scheduler.specs.Rows.{Row}

module _ (start end category : ℕ) where
  -- no entry on it: nothing has changed there
  pub others_same : (ls : List Line) (b : Board) (i : ℕ) → i < length b.resources → entries_on (number_at b i) ls ≡ 0
      → resource_at (book_all start end category ls b) i ≡ resource_at b i
  unfolding book_all entries_on
  others_same [] b i h e = refl
  others_same (l ∷ ls) b i h e = go (eqb l.number (number_at b i)) refl e (others_same ls (changed b (lookup b l.number) (booked start end category l)) i)
    where
      b' : Board
      b' = changed b (lookup b l.number) (booked start end category l)

      go : (q : Bool) → eqb l.number (number_at b i) ≡ q → cond q 1 0 + entries_on (number_at b i) ls ≡ 0
          → (i < length b'.resources → entries_on (number_at b' i) ls ≡ 0 → resource_at (book_all start end category ls b') i ≡ resource_at b' i)
          → resource_at (book_all start end category ls b') i ≡ resource_at b i
      go true f g again = absurd (omega arith)
      go false f g again =
          let ne = eqb-false l.number (number_at b i) f in
          let z : entries_on (number_at b i) ls ≡ 0 = omega arith in
          again (rw (step-long start end category b l (lookup b l.number)) h) (ap (λ (n : ℕ). entries_on n ls) (step-number start end category b l i h) ∙ z)
          ∙ step_same start end category b l i (λ k. ne (sym k))

  pub frame-len : (ls : List Line) (b : Board) → (book_all start end category ls b).len ≡ b.len
  unfolding book_all
  frame-len [] b = refl
  frame-len (l ∷ ls) b = frame-len ls (changed b (lookup b l.number) (booked start end category l)) ∙ step-len start end category b l (lookup b l.number)

  pub frame-transport : (ls : List Line) (b : Board) → (book_all start end category ls b).transport ≡ b.transport
  unfolding book_all
  frame-transport [] b = refl
  frame-transport (l ∷ ls) b = frame-transport ls (changed b (lookup b l.number) (booked start end category l)) ∙ step-transport start end category b l (lookup b l.number)

  -- of each resource only the bookings and the last category change, and every booking is kept
  pub frame-resource : (ls : List Line) (b : Board) (i : ℕ) → i < length b.resources → Framed (resource_at b i) (resource_at (book_all start end category ls b) i)
  unfolding book_all
  frame-resource [] b i h = framed_self (resource_at b i)
  frame-resource (l ∷ ls) b i h =
      let b' = changed b (lookup b l.number) (booked start end category l) in
      framed-on (resource_at b i) (resource_at b' i) (resource_at (book_all start end category ls b') i) (step-framed start end category b l i h)
      (frame-resource ls b' i (rw (step-long start end category b l (lookup b l.number)) h))

  -- the last category of a resource stays unless an entry takes it there
  pub last-kept : (ls : List Line) (b : Board) (i : ℕ) → i < length b.resources → every (λ l. not (takes_category (resource_at b i) l)) ls ≡ true
      → (resource_at (book_all start end category ls b) i).last ≡ (resource_at b i).last
  unfolding book_all every
  last-kept [] b i h off = refl
  last-kept (l ∷ ls) b i h off =
      let b' = changed b (lookup b l.number) (booked start end category l) in
      let w = and_split (not (takes_category (resource_at b i) l)) (every (λ l. not (takes_category (resource_at b i) l)) ls) off in
      let f = step-framed start end category b l i h in
      last-kept ls b' i (rw (step-long start end category b l (lookup b l.number)) h) (rw (← f.number_same, ← f.matrix_same) w.1)
      ∙ step-last start end category b l i h (not-true (takes_category (resource_at b i) l) w.0)

-- a committed board keeps the rules
pub commit-keeps : (b : Board) (slate : List Row) (count start end category : ℕ) → length b.resources ≡ 16 → board.valid b ≡ true
    → board.valid (commit_reply b slate count start end category).board ≡ true
unfolding commit_reply commit_refusal entered lines_of book_all
commit-keeps b slate count start end category long v = go (commit_refusal b slate count start end category) refl
  where
    ls : List Line
    ls = lines_of count slate

    booking : lines_refusal b ls start end category ≡ 0 → board.valid (book_all start end category ls b) ≡ true
    booking e = let w = all-fine b ls start end category v e in all_keep start end category w.0 ls b long v w.1 w.2

    counted : (q : Bool) → eqb count 0 ≡ q → cond q 0 (cond (ltb (length slate) count) 7 (lines_refusal b ls start end category)) ≡ 0
        → board.valid (book_all start end category ls b) ≡ true
    counted true f e = rw (eqb-true count 0 f) v
    counted false f e = booking (unrefused (ltb (length slate) count) 6 (lines_refusal b ls start end category) e).1

    go : (n : ℕ) → commit_refusal b slate count start end category ≡ n → board.valid (entered n b (book_all start end category ls b)).board ≡ true
    go zero e =
        counted (eqb count 0) refl
        (unrefused (not (board.valid b)) 14 (cond (eqb count 0) 0 (cond (ltb (length slate) count) 7 (lines_refusal b ls start end category))) e).1
    go (suc n) e = v
