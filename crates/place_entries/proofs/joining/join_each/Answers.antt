use Rattle.std.proofs.Common.{◌≡◌, length, sym, ◌∙◌, arith, rules}
use lib.Seq.{take-length}
use Rattle.scheduler.specs.Fitting.{join_each}
use Rattle.cells.specs.Laws.Arrays.{each_at}
use Rattle.place_entries.specs.Cells.{Small}
use Rattle.place_entries.proofs.Once.{joined-none, joined-few, join-skip, join-on, join-room}
use Rattle.place_entries.proofs.joining.join_each.Goals as goal
use Rattle.place_entries.proofs.joining.join_each.Goals.{then-not-is_among, else-not-is_among}

pub loop-number-init : goal.loop-number-init
unfolding join_each
loop-number-init c = joined-none c.args.e.count c.args.e.entries c.requires.0 (search rules)

pub shared_ref_as_front-is_among : goal.shared_ref_as_front-is_among
shared_ref_as_front-is_among c = joined-few _ _ _ _ _ c.loop-number.invariant

-- there is room for one more
pub bounds-more-more : goal.bounds-more-more
bounds-more-more c =
    let l = c.loop-number-test.true in
    join-room _ _ _ _ _ _ l c.loop-number.invariant (sym c.is_among.ensures ∙ c.if-not-is_among.true) (each_at Small 0 _ c.requires.1 _ l)

pub loop-number-preserved : goal.loop-number-preserved
loop-number-preserved c =
    let v = c.loop-number.invariant in
    let l = c.loop-number-test.true in
    let e = sym c.is_among.ensures in
    elim c.if-not-is_among.branch [ then-not-is_among w ↦ rw (w.more-is, w.companion_entry.ensures) (join-on _ _ _ _ _ _ l v (e ∙ w.if-not-is_among.true) (each_at Small 0 _ c.requires.1 _ l)) | else-not-is_among w ↦ rw w.more-is (join-skip _ _ _ _ _ _ l v (e ∙ w.if-not-is_among.false)) ]

pub returns : goal.returns
returns c =
    let v = c.loop-number.invariant in
    let z : c.loop-number.number-index ≡ length c.args.companions.now = omega (arith, c.loop-number-test.false) in
    (joined-few _ _ _ _ _ v, v.long, rw take-length at (rw z at v.entries))
