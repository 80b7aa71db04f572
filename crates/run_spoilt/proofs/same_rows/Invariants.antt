-- `run_spoilt::same_rows` meets its contract: the rows passed are the same.
use Rattle.std.proofs.Common.{◌≡◌, ℕ, ◌≤◌, ◌<◌, [], get_or}
use Rattle.run_spoilt.proofs.same_rows.Given as goal

abbrev pub invariant-loop-i : goal.invariant-loop-i
invariant-loop-i l = (k : ℕ) → l.from ≤ k → k < l.i → get_or l.a k [] ≡ get_or l.b k []
