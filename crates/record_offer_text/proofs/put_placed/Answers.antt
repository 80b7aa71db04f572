-- `record_offer_text::put_placed` meets its contract: six pieces, one behind the other.
use native.Mathlib.Omega.{arith}
use Rattle.record_texts.specs.Laws.Putting.{then}
use Rattle.record_offer_text.specs.Lines.{placed_text}
use Rattle.record_offer_text.proofs.put_placed.Goals as goal

pub returns : goal.returns
unfolding placed_text
returns c =
    let h = c.requires in
    let p = c.put-a in
    let q = c.put_value-b in
    let r = c.put_value-c in
    let s = c.put_value-d in
    let t = c.put_value-e in
    let u = c.put in record {
      put = then (omega arith) p.ensures
          (then (omega arith) q.ensures.put
          (then (omega arith) r.ensures.put
          (then (omega arith) s.ensures.put (then (omega arith) t.ensures.put u.ensures))));
      upper_bound = omega arith;
    }
