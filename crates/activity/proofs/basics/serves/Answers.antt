-- `activity::basics::serves` meets its contract.
use Rattle.std.specs.Prelude.{refl}
use Rattle.std.proofs.Common.{rules, sym, ◌∙◌}
use Rattle.activity.specs.Serving.{serves}
use Rattle.activity.specs.Laws.Masks.{covers-mask}
use Rattle.activity.proofs.basics.serves.Goals as goal

pub returns-then-is_candidate : goal.returns-then-is_candidate
unfolding serves
returns-then-is_candidate c =
    covers-mask 64 c.args.requirement.skills c.args.skills (search rules) ∙ sym (rw (sym c.is_candidate.ensures ∙ c.if-is_candidate.true) refl)

pub returns-else-is_candidate : goal.returns-else-is_candidate
unfolding serves
returns-else-is_candidate c = c.if-is_candidate.false ∙ sym (rw (sym c.is_candidate.ensures ∙ c.if-is_candidate.false) refl)
