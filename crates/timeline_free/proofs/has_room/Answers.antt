use borrow.Author.Count.{below_more}
use mathlib.Core.Path.{refl, sym}
use mathlib.Core.Logic.{⊎_elim, inl, inr}
use Prim.Native.Nat.{◌≤◌, ◌<◌}
use native.Mathlib.Omega.{arith}
use lib.ListN.{get_or}
use Rattle.cells.specs.Laws.Basics.{lt-or-ge}
use Rattle.timeline.specs.Laws.Rows.{rows-length, rows_at}
use Rattle.timeline.specs.Laws.Loading.{every-instant, free-yes, free-no}
use Rattle.timeline_free.proofs.has_room.Goals as goal
use Rattle.timeline_free.proofs.has_room.Goals.{else-s-p-via-then-s-p+else-load_at-room-2, else-s-p-via-else-s-p}

pub load_at-requires : goal.load_at-requires
load_at-requires c = (c.requires, omega arith)

pub returns-then-load_at-room : goal.returns-then-load_at-room
returns-then-load_at-room c = sym (free-no _ _ _ _ _ _ (inl refl) (omega (arith, c.load_at.ensures)))

pub loop-i-init : goal.loop-i-init
loop-i-init c =
    let f = c.requires in
    (omega (arith, c.load_at.ensures), λ k h a b. absurd (omega (arith, f.past k h, f.order k (omega (arith, f.first)))))

pub load_at-requires-then-s-p : goal.load_at-requires-then-s-p
load_at-requires-then-s-p c = (c.requires, omega arith)

pub returns-then-load_at-room-2 : goal.returns-then-load_at-room-2
returns-then-load_at-room-2 c = sym (free-no _ _ _ _ _ (get_or c.args.t.now.starts c.loop-i.i 0) (inr (omega arith, omega arith)) (omega (arith, c.load_at-then-s-p.ensures)))

pub loop-i-preserved : goal.loop-i-preserved
loop-i-preserved c =
    let v = c.loop-i.invariant in
    (v.0, below_more _ _ v.1 (λ g h. elim c.else-s-p.branch [ else-s-p-via-then-s-p+else-load_at-room-2 w ↦ omega (arith, w.load_at-then-s-p.ensures, w.if-load_at-room-2.false) | else-s-p-via-else-s-p w ↦ omega arith ]))

pub returns-after-loop-i : goal.returns-after-loop-i
returns-after-loop-i c =
    let v = c.loop-i.invariant in
    let a = c.args in
    sym (free-yes _ _ _ _ _ (every-instant _ _ _ _ _ (omega arith) (omega arith)
    (λ k l.
    let q : k < a.t.now.len = rw (rows-length a.t.now.starts a.t.now.ends a.t.now.units a.t.now.len) at l in
    rw (rows_at a.t.now.starts a.t.now.ends a.t.now.units a.t.now.len k q) (λ g h. omega (arith, v.1 k (omega arith) g h)))))

pub returns-then-p-e : goal.returns-then-p-e
returns-then-p-e c =
    let v = c.loop-i.invariant in
    let a = c.args in
    let f = c.requires in
    sym (free-yes _ _ _ _ _ (every-instant _ _ _ _ _ (omega arith) (omega arith)
    (λ k l.
    let q : k < a.t.now.len = rw (rows-length a.t.now.starts a.t.now.ends a.t.now.units a.t.now.len) at l in
    rw (rows_at a.t.now.starts a.t.now.ends a.t.now.units a.t.now.len k q)
    (λ g h.
    ⊎_elim
    (λ (m : k < c.loop-i.i). omega (arith, v.1 k m g h))
    (λ (m : c.loop-i.i ≤ k). absurd (omega (arith, f.starts c.loop-i.i k m q, c.if-p-e.true)))
    (lt-or-ge k c.loop-i.i)))))
