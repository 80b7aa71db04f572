use Rattle.std.proofs.Common.{rules}
use Rattle.timeline.proofs.same.same.Goals as goal

pub returns : goal.returns
returns c = record { yes = λ e. search rules; no = λ e. search rules }
