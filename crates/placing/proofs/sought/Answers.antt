-- `placing::sought` meets its contract: an order without requirements, no choice, or the choice.
use Rattle.std.proofs.Common.{◌≡◌, ◌≤◌, length, take, sym, ap, arith, rules}
use lib.Seq.{length-take-le}
use Rattle.activity.specs.Laws.Judging.{accepted}
use Rattle.scheduler.specs.Alone.{span_of}
use Rattle.scheduler.specs.Choosing.{chosen, choosing}
use Rattle.scheduler.specs.Selections.{held_to}
use Rattle.place_rounds.specs.Rounds.{choice_of}
use Rattle.placing.proofs.Entering.{front-places, entered}
use Rattle.placing.proofs.Replying.{placing-alone, placing-none, placing-held, first_one}
use Rattle.placing.proofs.sought.Goals as goal

pub overflow_add-span : goal.overflow_add-span
overflow_add-span c =
    let d = (accepted _ _ c.requires.1).lawful.base_short in
    record { fits = omega (arith, d.setup_range, d.process_range) }

pub overflow_add-span-then-a-eq0 : goal.overflow_add-span-then-a-eq0
overflow_add-span-then-a-eq0 c =
    let d = (accepted _ _ c.requires.1).lawful.base_short in
    record { fits = omega (arith, d.setup_range, d.process_range, d.teardown_range) }

pub returns-then-a-eq0 : goal.returns-then-a-eq0
unfolding span_of
returns-then-a-eq0 c =
    let a = c.args in
    let x = accepted a.a a.ready c.requires.1 in
    let d = x.lawful.base_short in
    let e = c.no_entries-entries.ensures in
    record {
      entries = record { few = omega (arith, e.0); long = ap length e.1; each = λ i l. absurd (omega (arith, e.0)) };
      instant = omega (arith, x.ready_range);
      short = omega (arith, d.setup_range, d.process_range, d.teardown_range);
      reply = rw e.0 (placing-alone a.b a.a a.ready c.if-a-eq0.true);
    }

pub returns-in_err-c : goal.returns-in_err-c
unfolding choice_of
returns-in_err-c c =
    let a = c.args in
    let g = first_one a.a c.if-a-eq0.false (search rules) in
    rw c.from_residual.ensures (placing-none a.b a.a a.ready g.0 g.1 g.2 (sym c.in_err-c.ensures.0))

pub entries_of-x-requires : goal.entries_of-x-requires
entries_of-x-requires c =
    let a = c.args in
    let x = accepted _ _ c.requires.1 in
    let m = c.in_ok-c.ensures.1 in
    let h = c.in_ok-c.c.held in
    let long : length h.cells ≡ 8 = search rules in
    let n : length (take h.count h.cells) ≡ h.count = length-take-le h.count h.cells (omega (arith, long, m.few)) in
    (x.lawful, x.category_range, omega (arith, n, m.few), (a.b, a.ready, record { right = c.requires.0; planned = m.planned; places = front-places a.b h.cells h.count (omega (arith, long, m.few)) m.places }))

pub returns : goal.returns
unfolding choice_of
returns c =
    let a = c.args in
    let m = c.in_ok-c.ensures.1 in
    let h = c.in_ok-c.c.held in
    let long : length h.cells ≡ 8 = search rules in
    let few : h.count ≤ length h.cells = omega (arith, long, m.few) in
    let g = first_one a.a c.if-a-eq0.false (search rules) in
    let f : choosing a.b a.a a.ready ≡ chosen c.in_ok-c.c.instant (held_to a.b h.cells h.count) = sym c.in_ok-c.ensures.0 in
    let y = c.entries_of-x.ensures in
    let z = y.held_together a.b a.ready (record { right = c.requires.0; planned = m.planned; places = front-places a.b h.cells h.count few m.places }) in
    record {
      entries = entered a.b c.requires.0 a.a _ _ c.requires.1 g.0 g.1 g.2 h.cells h.count m.places few f _ _ y.count_bound.0 y.count_bound.1 z.0;
      instant = m.soon;
      short = y.count_bound.2;
      reply = rw (z.0, z.1) (placing-held a.b a.a a.ready g.0 g.1 g.2 c.in_ok-c.c.instant (held_to a.b h.cells h.count) f);
    }
