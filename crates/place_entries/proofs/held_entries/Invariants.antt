-- `place_entries::held_entries` meets its contract. The loop: the first i of those held are entered.
use Rattle.std.proofs.Common.{◌≡◌, ℕ, ◌<◌, length, get_or}
use Rattle.scheduler.specs.Entries.{no_entry}
use Rattle.place_entries.specs.Parts.{setup_at}
use Rattle.place_entries.proofs.held_entries.Given as goal

abbrev pub invariant-loop-i : goal.invariant-loop-i
invariant-loop-i l = (length l.e.entries ≡ 24) × ((k : ℕ) → k < l.i → get_or l.e.entries k no_entry ≡ setup_at l.p l.held l.own k)
