-- `record_bodies::kinds::BoardKind::body_len` meets its contract: by the length of each kind.
use Rattle.std.proofs.Common.{◌+◌, refl, sym, ap, ◌∙◌, arith, ℕ}
use Rattle.record_bodies.specs.Bodies.{len_of, fixed_len}
use Rattle.record_bodies.proofs.Lengths.{body-read, counted, cut-short, change-len, entry-len, part-len}
use Rattle.record_bodies.proofs.kinds.BoardKind.body_len.Goals as goal

pub returns-in_err-count-in-Resource : goal.returns-in_err-count-in-Resource
unfolding len_of
returns-in_err-count-in-Resource c =
    let a = c.args in
    let h = c.in_err-count-in-Resource.ensures.lookup in
    rw (c.in-Resource.is, c.from_residual.ensures) (cut-short a.bytes.now a.at a.end c.requires.0 c.requires.1 h.3)

pub returns-in-Change : goal.returns-in-Change
returns-in-Change c =
    let l = change-len c.in-Change.change c.args.bytes.now c.args.at in
    rw c.in-Change.is (body-read _ _ _ _ c.len.result c.whole.result c.requires.0 (l ∙ sym c.len.ensures.0) (omega arith) c.whole.ensures)

pub returns-in_ok-count-in-Resource : goal.returns-in_ok-count-in-Resource
unfolding len_of
returns-in_ok-count-in-Resource c =
    let h = c.in_ok-count-in-Resource.ensures.lookup in
    let e = counted c.args.bytes.now c.args.at c.args.end _ h.3.0 (h.3.1 0) in
    rw c.in-Resource.is (body-read 16 _ _ _ (11 + c.from.result) c.whole-in-Resource.result c.requires.0 (ap (λ (x : ℕ). 11 + x) (sym (c.from.ensures ∙ e))) (omega arith) c.whole-in-Resource.ensures)

pub returns-in-Entry : goal.returns-in-Entry
returns-in-Entry c =
    let l = entry-len c.in-Entry.entry c.args.bytes.now c.args.at in
    rw c.in-Entry.is (body-read _ _ _ _ c.len-in-Entry.result c.whole-in-Entry.result c.requires.0 (l ∙ sym c.len-in-Entry.ensures.0) (omega arith) c.whole-in-Entry.ensures)

pub returns-in-Order : goal.returns-in-Order
unfolding len_of fixed_len
returns-in-Order c = rw c.in-Order.is (body-read 21 _ _ _ 38 c.whole-in-Order.result c.requires.0 refl (omega arith) c.whole-in-Order.ensures)

pub returns-in-Part : goal.returns-in-Part
returns-in-Part c =
    let l = part-len c.in-Part.part c.args.bytes.now c.args.at in
    rw c.in-Part.is (body-read _ _ _ _ c.len-in-Part.result c.whole-in-Part.result c.requires.0 (l ∙ sym c.len-in-Part.ensures.0) (omega arith) c.whole-in-Part.ensures)
