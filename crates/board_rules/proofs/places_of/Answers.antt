use Rattle.std.specs.Prelude.{List, ◌-◌, ◌&&◌, ◌≡◌, ◌+◌, ◌≤◌, ◌<◌, ℕ, Bool, true, false, cond, ltb, min, refl}
use Rattle.std.proofs.Common.{sym, ◌∙◌, arith, lt-ltb, le-ltb, ⊎_elim, length-set}
use Rattle.cells.specs.Laws.Basics.{filled_next, lt-or-ge}
use Rattle.board.specs.declared.Board.{Board}
use Rattle.board.specs.Resources.{resource_at, number_at}
use Rattle.board.specs.Valid.{resource_right, resource_blank, cell_right, transport_right, valid}
use Rattle.board.specs.Places.{transport_right_by}
use Rattle.cells.specs.Every.{every_from}
use Rattle.board.specs.Laws.Facts.{resource-number, cell-past, cell-wrong, cell-twice, cell-right, valid-long, valid-start, valid-stop, valid-next, valid-end}
use Rattle.board.specs.Laws.Seeing.{Seen, seen_none}
use Rattle.board.specs.Laws.Setting.{seen_next, seen-past, seen_at, transport_same, read_all}
use Rattle.board_rules.proofs.Lengths.{few-bookings}
use Rattle.board_rules.proofs.places_of.Goals as goal
use Rattle.board_rules.proofs.places_of.Goals.{then-there+else-places-number-lt16, else-there}

pub returns-then-b-gt16 : goal.returns-then-b-gt16
returns-then-b-gt16 c = valid-long _ c.if-b-gt16.true

pub loop-i-init : goal.loop-i-init
loop-i-init c =
    let b = c.args.b in
    let z : min 0 b.len ≡ 0 = omega arith in
    record { few = omega arith; seen = rw z (seen_none b); decides = valid-start b c.if-b-gt16.false; long = refl; read = λ k l. absurd (omega arith) }

-- what `cell_right` says of cell i: that it is wrong, or that a resource there is right
abbrev answered : Board → ℕ → Bool
answered b i = cond (ltb i b.len) (resource_right (resource_at b i)) (resource_blank (resource_at b i))

cell-fails : (b : Board) (i : ℕ) → answered b i ≡ false → cell_right b i ≡ false
cell-fails b i e =
    ⊎_elim
    (λ (l : i < b.len). cell-wrong b i l (rw (lt-ltb i b.len l) at e))
    (λ (l : b.len ≤ i). cell-past b i l ∙ (rw (le-ltb i b.len l) at e))
    (lt-or-ge i b.len)

there : (b : Board) (i : ℕ) → i < b.len → answered b i ≡ true → resource_right (resource_at b i) ≡ true
there b i l e = rw (lt-ltb i b.len l) at e

pub returns-then-not-cell_right : goal.returns-then-not-cell_right
returns-then-not-cell_right c = valid-stop _ _ c.loop-i-test.true c.loop-i.invariant.decides (cell-fails _ _ (sym c.cell_right.ensures ∙ c.if-not-cell_right.true))

pub bounds-places-number : goal.bounds-places-number
bounds-places-number c =
    let e : resource_right (resource_at c.args.b c.loop-i.i) ≡ true = there c.args.b c.loop-i.i c.if-there.true (sym c.cell_right.ensures ∙ c.if-not-cell_right.false) in
    omega (arith, resource-number _ e, c.loop-i.invariant.seen.long)

pub returns-then-places-number-lt16 : goal.returns-then-places-number-lt16
returns-then-places-number-lt16 c =
    let b = c.args.b in
    let l = c.loop-i in
    let e : resource_right (resource_at b l.i) ≡ true = there b l.i c.if-there.true (sym c.cell_right.ensures ∙ c.if-not-cell_right.false) in
    let d = seen_at b l.i (number_at b l.i) l.places l.invariant.seen (omega arith) (omega arith) (omega (arith, resource-number _ e)) in
    valid-stop _ _ c.loop-i-test.true l.invariant.decides (cell-twice _ _ (omega arith) e (sym d ∙ lt-ltb _ _ c.if-places-number-lt16.true))

pub bounds-places-number-then-there : goal.bounds-places-number-then-there
bounds-places-number-then-there c =
    let e : resource_right (resource_at c.args.b c.loop-i.i) ≡ true = there c.args.b c.loop-i.i c.if-there.true (sym c.cell_right.ensures ∙ c.if-not-cell_right.false) in
    omega (arith, resource-number _ e, c.loop-i.invariant.seen.long)

pub loop-i-preserved : goal.loop-i-preserved
loop-i-preserved c =
    let b = c.args.b in
    let l = c.loop-i in
    let i = l.i in
    let s = l.invariant.seen in
    let e : answered b i ≡ true = sym c.cell_right.ensures ∙ c.if-not-cell_right.false in
    let j : Seen b (min (i + 1) b.len) c.if-there.places × (cell_right b i ≡ true) =
    elim c.if-there.branch [
      | then-there+else-places-number-lt16 w ↦
          (let r = there b i w.if-there.true e in
          let d = seen_at b i (number_at b i) l.places s (omega arith) (omega arith) (omega (arith, resource-number _ r)) in
          let f = sym d ∙ le-ltb _ _ w.if-places-number-lt16.false in
          (rw w.places-is (seen_next b i l.places s (omega arith) (omega (arith, resource-number _ r)) f), cell-right b i (omega arith) r f))
      | else-there w ↦ (rw w.places-is (seen-past b i l.places s (omega arith)), cell-past b i w.if-there.false ∙ (rw (le-ltb i b.len w.if-there.false) at e))
    ] in
    record {
      few = l.invariant.few;
      seen = j.0;
      decides = valid-next b i c.loop-i-test.true l.invariant.decides j.1;
      long = length-set l.lens i _ ∙ l.invariant.long;
      read = filled_next (λ k. (resource_at b k).timeline.len) l.lens i _ 0 (omega (arith, l.invariant.long)) l.invariant.read refl;
    }

-- at the end the transport decides
decided : (b : Board) (i : ℕ) (places : List ℕ) (r : Bool) → 16 ≤ i → b.len ≤ 16 → Seen b (min i b.len) places
    → valid b ≡ every_from (cell_right b) i (16 - i) && every_from (transport_right b) 0 256 → r ≡ every_from (transport_right_by b.transport places) 0 256 → valid b ≡ r
decided b i places r l few s d e = valid-end b i l d ∙ sym (transport_same b places (read_all b i places s (omega arith)) few) ∙ sym e

pub invariant_of-result : goal.invariant_of-result
invariant_of-result c =
    let b = c.args.b in
    let l = c.loop-i in
    let v = decided b l.i l.places _ (omega arith) (omega arith) l.invariant.seen l.invariant.decides c.transport_right.ensures ∙ c.if-transport_right.true in
    record { few_bookings = λ k m. rw (l.invariant.read k (omega arith)) (few-bookings b v k m) }

pub returns-then-transport_right : goal.returns-then-transport_right
returns-then-transport_right c =
    let b = c.args.b in
    let l = c.loop-i in
    let v = decided b l.i l.places _ (omega arith) (omega arith) l.invariant.seen l.invariant.decides c.transport_right.ensures ∙ c.if-transport_right.true in
    (v, (read_all b l.i l.places l.invariant.seen (omega arith)).place, (λ k m. l.invariant.read k (omega arith)))

pub returns-else-transport_right : goal.returns-else-transport_right
returns-else-transport_right c =
    let b = c.args.b in
    let l = c.loop-i in
    decided b l.i l.places _ (omega arith) (omega arith) l.invariant.seen l.invariant.decides c.transport_right.ensures ∙ c.if-transport_right.false
