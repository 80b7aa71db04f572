-- `activity::basics::duration_on` meets its contract: the walk over the resources held (`Holding`) ends with the definition's product and lead.
use Rattle.std.specs.Prelude.{take}
use Rattle.activity.specs.Lawful.{leading_of}
use Rattle.activity.specs.Laws.Holding.{Walk}
use Rattle.activity.proofs.basics.duration_on.Given as goal

abbrev pub invariant-loop-number : goal.invariant-loop-number
invariant-loop-number l = Walk l.timings (take l.fn.count l.fn.held) l.speed (leading_of l.fixed) l.number-index
