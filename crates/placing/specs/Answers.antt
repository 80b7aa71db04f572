-- What `place_activity` answers, in the paper's four cases: a refusal by its number, and a placement by its numbers, for the entries stand
-- on the slate.
use Rattle.std.specs.Prelude.{ℕ}
use Rattle.placing.specs.declared.Placed as code

pub data Answer : Type 0 where
  Placed : code.Placed → Answer
  ChosenNone : ℕ → Answer
  None : Answer
  Refused : ℕ → Answer
