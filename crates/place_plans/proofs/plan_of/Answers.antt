-- `place_plans::plan_of` meets its contract: the durations, the setup and the arrival of one resource alone.
use Rattle.std.specs.Prelude.{◌≡◌}
use mathlib.Core.Path.{refl}
use native.Mathlib.Omega.{arith}
use Rattle.board.specs.Theorems.Meaning.{resource-rules}
use Rattle.scheduler.specs.Alone.{span_of, duration_alone}
use Rattle.place_plans.specs.Plans.{plan_with}
use Rattle.place_plans.proofs.Planning.{lasting-small}
use Rattle.place_plans.proofs.plan_of.Goals as goal

pub duration_on-d-requires : goal.duration_on-d-requires
duration_on-d-requires c =
    record {
      count_bound = omega arith;
      by_index = λ i l.
          let z : i ≡ 0 = omega arith in
          rw z (omega (arith, (resource-rules c.args.r c.requires.0).number));
      lawful = c.requires.1;
    }

pub setup_ms-setup-requires : goal.setup_ms-setup-requires
setup_ms-setup-requires c =
    ((resource-rules c.args.r c.requires.0).last, omega (arith, c.requires.2))

pub overflow_add-result : goal.overflow_add-result
overflow_add-result c =
    let s = lasting-small c.args.r c.args.a.duration c.args.a.timings c.args.a.category c.requires.0 c.requires.1 c.requires.2 c.duration_on-d.result c.duration_on-d.ensures in
    omega (arith, s.1, s.0.process_range, c.setup_ms-setup.ensures)

pub overflow_add-result-2 : goal.overflow_add-result-2
overflow_add-result-2 c =
    let s = lasting-small c.args.r c.args.a.duration c.args.a.timings c.args.a.category c.requires.0 c.requires.1 c.requires.2 c.duration_on-d.result c.duration_on-d.ensures in
    omega (arith, s.1, s.0.process_range, s.0.teardown_range, c.setup_ms-setup.ensures)

pub transport_between-requires : goal.transport_between-requires
transport_between-requires c =
    omega (arith, (resource-rules c.args.r c.requires.0).number)

pub setup_ms-requires : goal.setup_ms-requires
setup_ms-requires c =
    ((resource-rules c.args.r c.requires.0).last, omega (arith, c.requires.2))

pub returns : goal.returns
unfolding span_of duration_alone plan_with
returns c = rw (c.then_some.ensures, c.setup_ms.ensures, c.transport_between.ensures, c.setup_ms-setup.ensures, c.duration_on-d.ensures) refl
