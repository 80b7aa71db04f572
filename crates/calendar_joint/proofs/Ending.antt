-- What `work_end` over a layout is of the calendars that were laid out, and where a layout's pieces begin.
use mathlib.Core.Path.{◌≡◌, sym, ap, ◌∙◌}
use mathlib.Core.Bool.{Bool, true, false}
use mathlib.Core.List.{List}
use mathlib.Core.Logic.{⊎_elim}
use Prim.Native.Nat.{ℕ, zero, suc, ◌+◌, ◌≤◌, ◌<◌}
use native.Mathlib.Omega.{arith}
use lib.ListN.{get_or}
use borrow.Author.Tests.{lt-leb}
use Rattle.calendar.specs.declared.Calendar.{Calendar}
use Rattle.cells.specs.Laws.Basics.{lt-or-ge, not-both}
use Rattle.calendar.specs.Work.{joint, work_end, last_change, joint_end}
use Rattle.calendar.specs.Laws.WorkEnds.{Changeless, work-end-same, joint-changeless}
use Rattle.cells.specs.Cells.{before, passed, Before}
use Rattle.calendar_work.specs.Layout.{odd, laid, Edges, Layout}
use Rattle.cells.proofs.Passing.{passed-all}
use Rattle.calendar_work.proofs.Walking.{last-most}

-- past its last edge a layout changes no more
laid-changeless : (xs : List ℕ) (n : ℕ) → Edges xs n → Changeless (before xs n) (laid xs n)
unfolding laid
laid-changeless xs n y q h =
    ap odd (passed-all xs n q (λ k l. omega (arith, last-most xs n k y l)) ∙ sym (passed-all xs n (before xs n) (λ k l. last-most xs n k y l)))

-- work from x on, over a layout of what from x on is the joint working time of the calendars
pub layout-end : (cs : List Calendar) (W : ℕ → Bool) (xs : List ℕ) (n x w : ℕ) → Layout W xs n → ((q : ℕ) → x ≤ q → W q ≡ joint cs q) → work_end (before xs n) (laid xs n) x w ≡ joint_end cs x w
layout-end cs W xs n x w y h =
    work-end-same (before xs n) (last_change cs) (laid xs n) (joint cs) x w (laid-changeless xs n y.edges) (joint-changeless cs) (λ q l. y.means q ∙ h q l)

-- the edges part at every instant
pub parted : (xs : List ℕ) (n p : ℕ) → Edges xs n → Before xs n (p + 1) (passed xs n p)
unfolding passed
parted xs zero p y = record { few = omega arith; low = λ k h. absurd (omega arith); high = λ k h l. absurd (omega arith) }
parted xs (suc n) p y =
    ⊎_elim
    (λ (h : p < get_or xs n 0).
    let r = parted xs n p (record { rising = λ j k a b. y.rising j k a (omega arith); below = λ k a. y.below k (omega arith) }) in
    let e : passed xs (suc n) p ≡ passed xs n p = rw (passed, lt-leb (get_or xs n 0) p h) (omega arith) in
    rw e (record {
      few = omega (arith, r.few);
      low = r.low;
      high = λ k a b. ⊎_elim (λ (z : k < n). r.high k a z) (λ (z : n ≤ k). let q : n ≡ k = omega arith in rw (← q) (omega arith)) (lt-or-ge k n);
    }))
    (λ (h : get_or xs n 0 ≤ p).
    let low : (k : ℕ) → k < suc n → get_or xs k 0 ≤ p = λ k a. ⊎_elim (λ (z : k < n). omega (arith, y.rising k n z (omega arith))) (λ (z : n ≤ k). let q : n ≡ k = omega arith in rw (← q) h) (lt-or-ge k n) in
    rw (passed-all xs (suc n) p low) (record { few = omega arith; low = λ k a. omega (arith, low k a); high = λ k a b. absurd (omega arith) }))
    (lt-or-ge p (get_or xs n 0))

-- work begins only at an edge, and one with an even number before it
pub begins : (xs : List ℕ) (n x : ℕ) → Edges xs n → laid xs n x ≡ false → laid xs n (suc x) ≡ true → (k : ℕ) × (k < n) × (get_or xs k 0 ≡ suc x) × (odd k ≡ false)
unfolding laid
begins xs n x y off on =
    let a = parted xs n x y in
    let b = parted xs n (suc x) y in
    let i = passed xs n x in
    let j = passed xs n (suc x) in
    ⊎_elim
    (λ (z : i < j).
    let l : i < n = omega (arith, b.few) in
    (i, l, omega (arith, b.low i z, a.high i (omega arith) l), off))
    (λ (z : j ≤ i).
    ⊎_elim
    (λ (w : j < i). absurd (omega (arith, a.low j w, b.high j (omega arith) (omega (arith, a.few)))))
    (λ (w : i ≤ j).
    let e : i ≡ j = omega arith in
    absurd (not-both (odd j) on (ap odd (sym e) ∙ off)))
    (lt-or-ge j i))
    (lt-or-ge i j)
