-- `committing::commit` meets its contract: the refusals in their order (Refusing), and the rows booked one after another (Ahead).
use Rattle.std.specs.Prelude.{refl}
use Rattle.std.proofs.Common.{rules, ◌∙◌, arith, ne_eqb, length-take}
use Rattle.std.proofs.lemmas.Result.{err_from_is_err_and}
use Rattle.calendar.specs.declared.refusal.Refusal.TheVariants.{Slate, Invalid}
use Rattle.board_rules.proofs.Refusing.{none_refused}
use Rattle.commit_checks.proofs.Refusing.{refusal-rules, refusal-count, refusal-lines, fine, reply_refused, reply-none, reply-taken}
use Rattle.committing.proofs.Ahead.{lines_first, left-all, left-none, left-bookable, row_here, row_next}
use Rattle.committing.proofs.commit.Goals as goal

pub returns-in_err-p : goal.returns-in_err-p
returns-in_err-p c =
    let p = err_from_is_err_and c.from_residual.result c.from_residual.ensures.1 in
    let r = none_refused _ _ _ _ c.places_of.ensures c.in_err-p.ensures.value in
    rw (p.1, p.2, r.0) (reply_refused _ Invalid (refusal-rules _ r.1))

pub returns-then-count-eq0 : goal.returns-then-count-eq0
returns-then-count-eq0 c = reply-none _ (rw c.in_ok-p.ensures.ok_part at c.places_of.ensures).0 c.if-count-eq0.true

pub returns-then-count-slate : goal.returns-then-count-slate
returns-then-count-slate c = reply_refused _ Slate (refusal-count _ (rw c.in_ok-p.ensures.ok_part at c.places_of.ensures).0 (ne_eqb _ 0 c.if-count-eq0.false) c.if-count-slate.true)

pub returns-in_err-lines_refusal : goal.returns-in_err-lines_refusal
returns-in_err-lines_refusal c =
    let s = rw c.in_ok-p.ensures.ok_part at c.places_of.ensures in
    let p = err_from_is_err_and c.from_residual-in_err-lines_refusal.result c.from_residual-in_err-lines_refusal.ensures.1 in
    let q = rw (lines_first c.args.count c.args.slate.now) at (c.in_err-lines_refusal.ensures c.args.b s.0 s.1 s.2) in
    rw (p.1, p.2) (reply_refused _ _ (q ∙ refusal-lines _ s.0 (ne_eqb _ 0 c.if-count-eq0.false) c.if-count-slate.false))

pub loop-row-init : goal.loop-row-init
loop-row-init c =
    let s = rw c.in_ok-p.ensures.ok_part at c.places_of.ensures in
    let q = rw (lines_first c.args.count c.args.slate.now) at (c.in_ok-lines_refusal.ensures c.args.b s.0 s.1 s.2) in
    left-all _ _ (search rules) s.1 (fine _ 0 (q ∙ refusal-lines _ s.0 (ne_eqb _ 0 c.if-count-eq0.false) c.if-count-slate.false) refl)

pub offset_bounds-p-number : goal.offset_bounds-p-number
offset_bounds-p-number c =
    let h = row_here _ _ _ _ c.loop-row.invariant (omega (arith, length-take c.args.count c.args.slate.now)) _ c.number_in-number.ensures in
    search rules

pub bounds-p-number : goal.bounds-p-number
bounds-p-number c =
    let h = row_here _ _ _ _ c.loop-row.invariant (omega (arith, length-take c.args.count c.args.slate.now)) _ c.number_in-number.ensures in
    search rules

pub offset_bounds-board-place : goal.offset_bounds-board-place
offset_bounds-board-place c =
    let h = row_here _ _ _ _ c.loop-row.invariant (omega (arith, length-take c.args.count c.args.slate.now)) _ c.number_in-number.ensures in
    search rules

pub bounds-board-place : goal.bounds-board-place
bounds-board-place c =
    let h = row_here _ _ _ _ c.loop-row.invariant (omega (arith, length-take c.args.count c.args.slate.now)) _ c.number_in-number.ensures in
    search rules

pub overflow_cast-units_in : goal.overflow_cast-units_in
overflow_cast-units_in c =
    let h = row_here _ _ _ _ c.loop-row.invariant (omega (arith, length-take c.args.count c.args.slate.now)) _ c.number_in-number.ensures in
    omega (arith, h.few, c.units_in.ensures)

pub book_on-requires : goal.book_on-requires
book_on-requires c =
    let h = row_here _ _ _ _ c.loop-row.invariant (omega (arith, length-take c.args.count c.args.slate.now)) _ c.number_in-number.ensures in
    let u = c.units_in.ensures in
    (h.kept, h.free, left-bookable _ _ _ _ c.loop-row.invariant (omega (arith, length-take c.args.count c.args.slate.now)), (omega (arith, u, h.some), omega (arith, u, h.few)))

pub offset_bounds-board-place-in-loop-row : goal.offset_bounds-board-place-in-loop-row
offset_bounds-board-place-in-loop-row c =
    let h = row_here _ _ _ _ c.loop-row.invariant (omega (arith, length-take c.args.count c.args.slate.now)) _ c.number_in-number.ensures in
    search rules

pub bounds-board-place-in-loop-row : goal.bounds-board-place-in-loop-row
bounds-board-place-in-loop-row c =
    let h = row_here _ _ _ _ c.loop-row.invariant (omega (arith, length-take c.args.count c.args.slate.now)) _ c.number_in-number.ensures in
    search rules

pub loop-row-preserved : goal.loop-row-preserved
loop-row-preserved c =
    row_next _ _ _ _ c.loop-row.invariant (omega (arith, length-take c.args.count c.args.slate.now)) _ c.number_in-number.ensures _ _ c.units_in.ensures c.is_companion.ensures c.book_on.result _ c.book_on.ensures

pub returns : goal.returns
returns c =
    let s = rw c.in_ok-p.ensures.ok_part at c.places_of.ensures in
    let q = rw (lines_first c.args.count c.args.slate.now) at (c.in_ok-lines_refusal.ensures c.args.b s.0 s.1 s.2) in
    reply-taken _ _ (q ∙ refusal-lines _ s.0 (ne_eqb _ 0 c.if-count-eq0.false) c.if-count-slate.false)
    (left-none _ _ _ _ c.loop-row.invariant (omega (arith, c.loop-row-test.false, length-take c.args.count c.args.slate.now)))
