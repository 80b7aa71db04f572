-- `record_offer_text::put_entries` meets its contract: one line more behind the others.
use Rattle.std.proofs.Common.{arith}
use Rattle.record_texts.specs.Laws.Putting.{then, put-none}
use Rattle.record_offer_text.specs.Lines.{entries_text}
use Rattle.record_offer_text.proofs.Printing.{entries-more}
use Rattle.record_offer_text.proofs.put_entries.Goals as goal

pub loop-row-init : goal.loop-row-init
unfolding entries_text
loop-row-init c = (omega arith, put-none _ _)

pub loop-row-preserved : goal.loop-row-preserved
loop-row-preserved c =
    let l = c.loop-row in
    let p = c.put_entry-end.ensures in
    (omega arith, rw (entries-more c.args.rows.now l.row-index (omega arith)) at (then (omega arith) l.invariant.1 p.put))
