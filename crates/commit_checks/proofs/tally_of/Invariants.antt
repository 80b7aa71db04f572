-- `commit_checks::tally_of` meets its contract. The loop: how many of the rows so far name each number.
use Rattle.std.specs.Prelude.{◌≡◌, length}
use Rattle.commit_checks.specs.Lines.{Counted}
use Rattle.commit_checks.proofs.tally_of.Given as goal

abbrev pub invariant-loop-row : goal.invariant-loop-row
invariant-loop-row l = record { long : length l.tally ≡ 16; counted : Counted l.rows l.row-index l.tally }
