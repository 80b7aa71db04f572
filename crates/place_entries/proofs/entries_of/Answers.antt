-- `place_entries::entries_of` meets its contract: those held, and their companions behind them.
use Rattle.std.proofs.Common.{◌^◌, ◌≤◌, ◌∙◌, arith}
use Rattle.board.specs.Theorems.Meaning.{resource-of}
use Rattle.place_entries.proofs.Parting.{held-together}
use Rattle.place_entries.proofs.entries_of.Goals as goal

pub duration_on-d-requires : goal.duration_on-d-requires
duration_on-d-requires c =
    let q = c.requires in
    let t = q.3 in
    let p = c.parts_of-p.ensures t.0 c.args.a t.1 t.2 in
    record { count_bound = q.2; by_index = λ i l. rw (p.numbers i l) (omega (arith, (resource-of t.0 t.2.right _ (t.2.places.stands i l)).number)); lawful = q.0 }

pub overflow_add-span : goal.overflow_add-span
overflow_add-span c =
    let q = c.requires in
    let t = q.3 in
    let e = c.held_entries-e.ensures in
    let w = held-together t.0 c.args.a c.args.held.now _ _ _ t.2.right q.0 q.1 e.1 t.2.places (c.parts_of-p.ensures t.0 c.args.a t.1 t.2) c.duration_on-d.ensures e.2 in
    let most : c.greatest_setup.result ≤ 2 ^ 36 = rw (c.greatest_setup.ensures, e.0) w.setups in
    omega (arith, most, w.duration.process_range)

pub overflow_add-span-2 : goal.overflow_add-span-2
overflow_add-span-2 c =
    let q = c.requires in
    let t = q.3 in
    let e = c.held_entries-e.ensures in
    let w = held-together t.0 c.args.a c.args.held.now _ _ _ t.2.right q.0 q.1 e.1 t.2.places (c.parts_of-p.ensures t.0 c.args.a t.1 t.2) c.duration_on-d.ensures e.2 in
    let most : c.greatest_setup.result ≤ 2 ^ 36 = rw (c.greatest_setup.ensures, e.0) w.setups in
    omega (arith, most, w.duration.process_range, w.duration.teardown_range)

pub shared_ref_as_front-join_each : goal.shared_ref_as_front-join_each
shared_ref_as_front-join_each c =
    let t = c.requires.3 in
    (c.parts_of-p.ensures t.0 c.args.a t.1 t.2).few

pub join_each-entries-requires : goal.join_each-entries-requires
join_each-entries-requires c =
    let t = c.requires.3 in
    let p = c.parts_of-p.ensures t.0 c.args.a t.1 t.2 in
    (omega (arith, c.held_entries-e.ensures.0, c.requires.2), p.small)

pub returns : goal.returns
returns c =
    let q = c.requires in
    let t = q.3 in
    let e = c.held_entries-e.ensures in
    let w = held-together t.0 c.args.a c.args.held.now _ _ _ t.2.right q.0 q.1 e.1 t.2.places (c.parts_of-p.ensures t.0 c.args.a t.1 t.2) c.duration_on-d.ensures e.2 in
    let most : c.greatest_setup.result ≤ 2 ^ 36 = rw (c.greatest_setup.ensures, e.0) w.setups in
    let j = c.join_each-entries.ensures in record {
      count_bound = (j.0, j.1, omega (arith, most, w.duration.process_range, w.duration.teardown_range));
      held_together = λ b ready u.
          let w = held-together b c.args.a c.args.held.now _ _ _ u.right q.0 q.1 e.1 u.places (c.parts_of-p.ensures b c.args.a ready u) c.duration_on-d.ensures e.2 in
          (j.2 ∙ rw e.0 w.whole, rw (c.greatest_setup.ensures, e.0) w.span);
    }
