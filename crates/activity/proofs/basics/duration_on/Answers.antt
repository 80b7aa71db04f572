use Rattle.std.specs.Prelude.{take, slice_index}
use Rattle.std.proofs.Common.{arith, length-take}
use lib.Ieee.{of_bits}
use Rattle.activity_speeds.proofs.Bounds.{within_more}
use Rattle.activity.specs.Lawful.{leading_of}
use Rattle.activity.specs.Laws.Holding.{walk_start, walk_step, walk-own, walk-base}
use Rattle.activity.proofs.basics.duration_on.Goals as goal

pub loop-number-init : goal.loop-number-init
unfolding of_bits
loop-number-init c = walk_start c.args.timings (take c.args.count c.args.held)

pub loop-number-preserved : goal.loop-number-preserved
loop-number-preserved c =
    let l = c.loop-number in
    let a = c.args in
    let all = take a.count a.held in
    walk_step a.timings all l.speed c.times-speed.result (leading_of l.fixed) (leading_of c.greater-fixed.result) l.number-index l.invariant c.loop-number-test.true
    (omega (arith, length-take a.count a.held)) (c.requires.lawful.each (slice_index all l.number-index)) c.times-speed.ensures c.greater-fixed.ensures

pub process_at-requires-clause-within_power : goal.process_at-requires-clause-within_power
process_at-requires-clause-within_power c =
    let l = c.loop-number in
    within_more l.number-index 8 l.speed (omega (arith, length-take c.args.count c.args.held)) l.invariant.range

pub returns-in-Some : goal.returns-in-Some
returns-in-Some c =
    let l = c.loop-number in
    walk-own c.args.timings _ c.args.base _ l.speed l.fixed l.number-index l.invariant c.loop-number-test.false c.in-Some.is

pub returns-in-None : goal.returns-in-None
returns-in-None c =
    let l = c.loop-number in
    walk-base c.args.timings _ c.args.base _ l.speed l.fixed l.number-index l.invariant c.loop-number-test.false c.in-None.is c.process_at.ensures
