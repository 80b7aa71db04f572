use mathlib.Core.Logic.{inl, inr}
use mathlib.Core.Path.{◌∙◌}
use native.Mathlib.Omega.{arith}
use Rattle.timeline.specs.Laws.Loading.{load-over}
use Rattle.timeline_free.proofs.load_at.Goals as goal
use Rattle.timeline_free.proofs.load_at.Goals.{then-p-e, else-p-e}

pub returns : goal.returns
returns c =
    c.units_over.ensures
    ∙ load-over _ _ _ _ _ c.requires.1
    (elim c.if-p-e.branch [ then-p-e w ↦ omega arith | else-p-e w ↦ omega arith ])
    (elim c.if-p-e.branch [ then-p-e w ↦ omega arith | else-p-e w ↦ omega arith ])
    (elim c.if-p-e.branch [ then-p-e w ↦ inr (omega arith) | else-p-e w ↦ inl (omega arith) ])
