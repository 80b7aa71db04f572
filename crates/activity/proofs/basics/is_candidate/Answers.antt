-- `activity::basics::is_candidate` meets its contract.
use Rattle.std.specs.Prelude.{refl}
use Rattle.std.proofs.Common.{sym, ◌∙◌, ne_eqb}
use Rattle.calendar.specs.Laws.Sets.{bit-and}
use Rattle.activity.specs.Serving.{candidate}
use Rattle.activity.proofs.basics.is_candidate.Goals as goal

pub returns-else-requirement-eq0 : goal.returns-else-requirement-eq0
unfolding candidate
returns-else-requirement-eq0 c =
    let q = c.args.requirement in
    bit-and q.candidates c.args.number ∙ sym (rw (ne_eqb q.candidates 0 c.if-requirement-eq0.false) refl)
