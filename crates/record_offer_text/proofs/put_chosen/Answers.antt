-- `record_offer_text::put_chosen` meets its contract: three pieces, one behind the other.
use native.Mathlib.Omega.{arith}
use Rattle.record_texts.specs.Laws.Putting.{then}
use Rattle.record_offer_text.specs.Lines.{chosen_text}
use Rattle.record_offer_text.proofs.put_chosen.Goals as goal

pub returns : goal.returns
unfolding chosen_text
returns c =
    let p = c.put-a in
    let q = c.put_value-b in
    let r = c.put in
    record { put = then (omega arith) p.ensures (then (omega arith) q.ensures.put r.ensures); upper_bound = omega arith }
