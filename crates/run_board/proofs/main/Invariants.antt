-- `run_board::main` is safe: what is unread lies in the buffer.
use Rattle.record_streams.specs.Input.{Lies}
use Rattle.run_board.proofs.main.Given as goal

abbrev pub invariant-loop : goal.invariant-loop
invariant-loop l = Lies l.s
