-- `record_offer_text::put_entry` meets its contract: six pieces, one behind the other, and what was read of the row.
use native.Mathlib.Omega.{arith}
use Rattle.record_texts.specs.Laws.Putting.{then}
use Rattle.record_offer_text.specs.Lines.{entry_text}
use Rattle.record_offer_text.proofs.put_entry.Goals as goal

pub returns : goal.returns
unfolding entry_text
returns c =
    let h = c.requires in
    let n = c.number_in in
    let m = c.setup_in in
    let k = c.units_in in
    let j = c.companion_in in
    let p = c.put-a in
    let q = c.put_value-b in
    let r = c.put_value-c in
    let s = c.put_value-d in
    let t = c.put_value-e in
    let u = c.put in record {
      put = rw (← n.ensures, ← m.ensures, ← k.ensures, ← j.ensures)
          (then (omega arith) p.ensures
          (then (omega arith) q.ensures.put
          (then (omega arith) r.ensures.put
          (then (omega arith) s.ensures.put (then (omega arith) t.ensures.put u.ensures)))));
      upper_bound = omega arith;
    }
