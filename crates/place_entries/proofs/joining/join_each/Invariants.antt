-- `place_entries::joining::join_each` meets its contract. The loop: the first companions have joined, each once.
use Rattle.std.proofs.Common.{[], map, take}
use Rattle.scheduler.specs.Fitting.{join_each}
use Rattle.place_entries.specs.Cells.{entry_number}
use Rattle.place_entries.proofs.Once.{Joined}
use Rattle.place_entries.proofs.joining.join_each.Given as goal

abbrev pub invariant-loop-number : goal.invariant-loop-number
invariant-loop-number l =
    Joined (take l.initial.more.count l.initial.more.entries) l.initial.more.count (join_each (map entry_number (take l.initial.more.count l.initial.more.entries)) [] (take l.number-index l.companions)) l.more.entries l.more.count
