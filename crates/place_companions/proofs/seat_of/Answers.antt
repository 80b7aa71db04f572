use Rattle.std.proofs.Common.{◌≡◌, length, arith}
use Rattle.place_companions.proofs.Seating.{sits-none, sits_here, sits_on, sits-off, sits-all}
use Rattle.place_companions.proofs.seat_of.Goals as goal
use Rattle.place_companions.proofs.seat_of.Goals.{then-j-i, else-j-i}

pub loop-j-init : goal.loop-j-init
loop-j-init c = sits-none _ _ _ _

pub returns-then-place-ge16 : goal.returns-then-place-ge16
returns-then-place-ge16 c =
    sits-off _ _ _ _ _ _ c.loop-j-test.true c.loop-j.invariant (rw c.from.ensures at c.if-place-ge16.true)

pub loop-j-preserved : goal.loop-j-preserved
loop-j-preserved c =
    let l = c.loop-j-test.true in
    let v = c.loop-j.invariant in
    let p = rw c.from.ensures at c.if-place-ge16.false in
    elim c.if-j-i.branch [ then-j-i w ↦ rw (w.seat-is, c.from.ensures) (sits_here _ _ _ _ _ _ l v p w.if-j-i.true) | else-j-i w ↦ rw w.seat-is (sits_on _ _ _ _ _ _ l v p w.if-j-i.false) ]

pub returns : goal.returns
returns c =
    let z : c.loop-j.j ≡ length c.args.companions.now = omega (arith, c.loop-j-test.false) in
    sits-all _ _ _ _ _ (rw z at c.loop-j.invariant)
