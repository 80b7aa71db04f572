-- The loop of `timeline_loader::add_run`: the records that are left make of the calendar so far what the whole run makes of the calendar.
use Rattle.std.proofs.Common.{◌≡◌, drop}
use Rattle.timeline_loader.specs.Run.{judged}
use Rattle.timeline_loader.proofs.add_run.Given as goal

abbrev pub invariant-loop-w : goal.invariant-loop-w
invariant-loop-w l = judged l.fn.c l.block l.sofar (drop l.w-index l.run) ≡ judged l.fn.c l.block l.fn.c l.run
