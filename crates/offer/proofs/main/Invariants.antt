-- `offer::main` is safe: what is unread lies in the buffer, and so does what waits.
use Rattle.std.proofs.Common.{◌≤◌}
use Rattle.record_streams.specs.Input.{Lies}
use Rattle.offer.proofs.main.Given as goal

abbrev pub invariant-loop : goal.invariant-loop
invariant-loop l = Lies l.s × (l.used ≤ 65536)
