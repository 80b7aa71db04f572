-- `record_diary_text::lines::put_fit` meets its contract: four pieces, one behind the other.
use native.Mathlib.Omega.{arith}
use mathlib.Core.List.{[], ◌∷◌}
use Rattle.record_texts.specs.Laws.Putting.{then}
use Rattle.record_diary_text.specs.Lines.{text_of}
use Rattle.record_diary_text.proofs.lines.put_fit.Goals as goal

pub returns : goal.returns
unfolding text_of
returns c =
    let p = c.put-a in
    let q = c.put_value-b in
    let r = c.put_value-c in
    let s = c.put in record { put = then {s = 102 ∷ 105 ∷ 116 ∷ []} (omega arith) p.ensures (then (omega arith) q.ensures.put (then {t = 10 ∷ []} (omega arith) r.ensures.put s.ensures)); upper_bound = omega arith }
