-- `record_offer_text::text` meets its contract: the line, and the entries behind it.
use native.Mathlib.Omega.{arith}
use lib.ListN.{length-take}
use Rattle.record_texts.specs.Laws.Putting.{then}
use Rattle.record_offer_text.specs.Lines.{text_of}
use Rattle.record_offer_text.proofs.text.Goals as goal

pub returns : goal.returns
unfolding text_of
returns c =
    let p = c.put_line-end in
    let q = c.put_entries in
    let l = length-take c.shown.result c.args.slate.now in
    record { put = then (omega arith) p.ensures.put (rw c.shown.ensures at q.ensures.put); upper_bound = omega (arith, l, q.ensures.upper_bound, p.ensures.upper_bound, c.shown.ensures) }
