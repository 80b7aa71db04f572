use borrow.Author.Rules.{rules}
use mathlib.Core.Path.{◌≡◌}
use native.Mathlib.Omega.{arith}
use lib.ListN.{length}
use Rattle.cells.specs.Laws.Cells.{front-rising, front-before}
use Rattle.timeline.specs.Laws.Rules.{rules_of}
use Rattle.timeline.specs.Laws.Columns.{columns}
use Rattle.cells.specs.Laws.Cells.{before-pos, before-zero}
use Rattle.timeline_fit.proofs.Gaps.{walk_start, walk_step, walk_end, walk-stop, plain}
use Rattle.timeline_fit.proofs.earliest_gap.Goals as goal
use Rattle.timeline_fit.proofs.earliest_gap.Goals.{then-first-gt0, else-first-gt0}

pub shared_ref_as_front-cells_before : goal.shared_ref_as_front-cells_before
shared_ref_as_front-cells_before c = (rules_of _ c.requires.t_value.0).room

pub cells_before-first-requires : goal.cells_before-first-requires
cells_before-first-requires c =
    let r = rules_of _ c.requires.t_value.0 in
    let l : length c.args.t.starts ≡ 64 = search rules in
    front-rising _ _ (omega (arith, r.room)) (columns _ r).starts

pub offset_bounds-t-first : goal.offset_bounds-t-first
offset_bounds-t-first c = omega (arith, (rules_of _ c.requires.t_value.0).room)

pub bounds-t-first : goal.bounds-t-first
bounds-t-first c = omega (arith, (rules_of _ c.requires.t_value.0).room)

pub loop-i-init : goal.loop-i-init
loop-i-init c =
    let t = c.args.t in
    let l : length t.starts ≡ 64 = search rules in
    let n = front-before t.starts t.len (omega (arith, (rules_of t c.requires.t_value.0).room)) _ _ c.cells_before-first.ensures in
    let q = c.cells_before-first.result in (
      (rules_of t c.requires.t_value.0).room,
      walk_start _ (plain t c.requires.t_value.0 c.requires.capacity_value) _ _ _ _ c.requires.t_value.1 n.few n.low
          (elim c.if-first-gt0.branch [ then-first-gt0 w ↦ omega (arith, w.later-at.ensures, w.at-is, before-pos t.latest q w.if-first-gt0.true) | else-first-gt0 w ↦ omega (arith, before-zero t.latest q w.if-first-gt0.false) ]),
    )

pub loop-i-preserved : goal.loop-i-preserved
loop-i-preserved c =
    let v = c.loop-i.invariant in
    (v.0, walk_step _ (plain _ c.requires.t_value.0 c.requires.capacity_value) _ _ _ _ _ v.1 c.loop-i-test.true c.if-t-i.false c.later-at-in-loop-i.ensures)

pub returns-after-loop-i : goal.returns-after-loop-i
returns-after-loop-i c =
    walk_end _ (plain _ c.requires.t_value.0 c.requires.capacity_value) _ _ _ _ c.loop-i.invariant.1 (omega arith)

pub returns-then-t-i : goal.returns-then-t-i
returns-then-t-i c =
    walk-stop _ (plain _ c.requires.t_value.0 c.requires.capacity_value) _ _ _ _ c.loop-i.invariant.1 c.loop-i-test.true c.if-t-i.true
