-- `record_bodies::numbers::number` meets its contract: the loop goes from the last byte to the first.
use Rattle.std.proofs.Common.{◌≡◌, ◌+◌, ◌-◌, ◌<◌, arith}
use Rattle.record_bodies.proofs.Figures.{little_step, small-step, room, little-none, little-end, small-none, small-end}
use Rattle.record_bodies.proofs.numbers.number.Goals as goal

pub loop-k-init : goal.loop-k-init
loop-k-init c = (little-none _ _ c.args.n, small-none c.args.n)

pub overflow_mul-v : goal.overflow_mul-v
overflow_mul-v c =
    let l = c.loop-k in
    omega (arith, room l.k c.args.n l.v 0 (omega arith) (omega arith) (omega arith) l.invariant.1 (omega arith))

pub overflow_add-v : goal.overflow_add-v
overflow_add-v c =
    let l = c.loop-k in
    let b : c.from.result < 256 = omega (arith, c.type_inv.bytes (c.args.at + (c.loop-k.k - 1))) in
    omega (arith, room l.k c.args.n l.v c.from.result (omega arith) (omega arith) (omega arith) l.invariant.1 b)

pub loop-k-preserved : goal.loop-k-preserved
loop-k-preserved c =
    let l = c.loop-k in
    let a = c.args in
    let b : c.from.result < 256 = omega (arith, c.type_inv.bytes (c.args.at + (c.loop-k.k - 1))) in
    (rw c.from.ensures (little_step a.bytes.now a.at l.k a.n l.v (omega arith) (omega arith) l.invariant.0), small-step l.k a.n l.v c.from.result (omega arith) (omega arith) l.invariant.1 b)

pub returns : goal.returns
returns c =
    let l = c.loop-k in
    let a = c.args in
    let z : l.k ≡ 0 = omega arith in
    (little-end a.bytes.now a.at l.k a.n l.v z l.invariant.0, small-end l.k a.n l.v z l.invariant.1)
