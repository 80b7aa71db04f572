-- `timeline_fit::earliest_fit` meets its contract.
use mathlib.Core.Path.{◌≡◌, refl, sym, ◌∙◌}
use native.Mathlib.Omega.{arith}
use Rattle.timeline_fit.proofs.Fitting.{fit-above}
use Rattle.timeline_fit.proofs.earliest_fit.Goals as goal

pub returns-then-units-t : goal.returns-then-units-t
returns-then-units-t c = let q = c.requires in sym (fit-above _ q.t_value.0 _ _ _ q.t_value.1 c.if-units-t.true)

pub earliest_gap-requires : goal.earliest_gap-requires
earliest_gap-requires c = let q = c.requires in record { t_value = q.t_value; capacity_value = (c.if-t-eq1.true, c.if-t-eq0.true, c.if-t-eq0-2.true) }

pub returns-then-t-eq0-2 : goal.returns-then-t-eq0-2
returns-then-t-eq0-2 c =
    let q = c.requires in
    let e : c.args.units ≡ 1 = omega arith in
    c.earliest_gap.ensures ∙ rw e refl

pub first_fit-requires : goal.first_fit-requires
first_fit-requires c = let q = c.requires.t_value in (q.0, q.1, q.2, omega arith)

pub returns : goal.returns
returns c = c.first_fit.ensures
