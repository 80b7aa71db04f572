use Rattle.std.proofs.Common.{◌≡◌, length, refl, arith}
use lib.Seq.{take-length}
use Rattle.placing.proofs.Writing.{written_next}
use Rattle.placing.proofs.write.Goals as goal

pub loop-i-init : goal.loop-i-init
loop-i-init c = refl

pub loop-i-preserved : goal.loop-i-preserved
loop-i-preserved c =
    let l = c.loop-i-test.true in
    rw (c.loop-i.invariant, c.row_of.ensures) (written_next c.args.entries.now c.args.slate.now c.loop-i.i l (omega (arith, l, c.requires)))

pub returns : goal.returns
returns c =
    let z : c.loop-i.i ≡ length c.args.entries.now = omega (arith, c.loop-i-test.false) in
    rw take-length at (rw z at c.loop-i.invariant)
