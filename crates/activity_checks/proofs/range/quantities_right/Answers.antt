use borrow.Author.Tests.{lt-leb, le-leb}
use Rattle.std.specs.Prelude.{◌≡◌, ℕ, true, false, leb, List, take, get_or, refl}
use Rattle.std.proofs.Common.{sym, arith, length-take}
use Rattle.activity.specs.declared.ResourceRequirement.{ResourceRequirement}
use Rattle.cells.specs.Every.{every}
use Rattle.cells.specs.Laws.Every.{all-stop, all_more, all_done}
use Rattle.activity.specs.Check.{quantity, quantity_right, quantities_right, no_requirement}
use Rattle.activity.specs.Laws.Passing.{left-step, left-end}
use Rattle.activity_checks.proofs.range.quantities_right.Goals as goal

none-enough : (qs : List ResourceRequirement) → false ≡ every quantity_right qs → false ≡ quantities_right qs
unfolding quantities_right
none-enough qs e = sym (rw (sym e) refl)

by_total : (qs : List ResourceRequirement) (total : ℕ) → true ≡ every quantity_right qs → quantity qs ≡ total → leb total 8 ≡ quantities_right qs
unfolding quantities_right
by_total qs total e q = sym (rw (sym e, q) refl)

pub overflow_add-total : goal.overflow_add-total
overflow_add-total c = omega (arith, length-take c.args.len c.args.requirements)

pub returns-then-q-lt1 : goal.returns-then-q-lt1
returns-then-q-lt1 c =
    let l = c.loop-q in
    let qs = take c.args.len c.args.requirements in
    none-enough _ (all-stop _ qs l.q-index no_requirement l.invariant.2 c.loop-q-test.true (lt-leb 1 (get_or qs l.q-index no_requirement).quantity (omega arith)))

pub loop-q-preserved : goal.loop-q-preserved
loop-q-preserved c =
    let l = c.loop-q in
    let qs = take c.args.len c.args.requirements in (
      omega arith,
      omega (arith, left-step qs l.q-index c.loop-q-test.true),
      all_more _ qs l.q-index no_requirement l.invariant.2 c.loop-q-test.true (le-leb 1 (get_or qs l.q-index no_requirement).quantity (omega arith)),
    )

pub returns : goal.returns
returns c =
    let l = c.loop-q in
    let qs = take c.args.len c.args.requirements in
    let q : quantity qs ≡ l.total = omega (arith, left-end qs l.q-index c.loop-q-test.false) in
    by_total _ _ (all_done _ qs l.q-index l.invariant.2 c.loop-q-test.false) q
