-- `record_diary_text::lines::put_refused` meets its contract: three pieces, one behind the other.
use native.Mathlib.Omega.{arith}
use mathlib.Core.List.{[], ◌∷◌}
use Rattle.record_texts.specs.Laws.Putting.{then}
use Rattle.record_diary_text.specs.Lines.{text_of}
use Rattle.record_diary_text.proofs.lines.put_refused.Goals as goal

pub returns : goal.returns
unfolding text_of
returns c =
    let p = c.put-a in
    let q = c.put_number-b in
    let r = c.put in
    let e = c.from.ensures in
    record { put = rw (← e) (then {s = 114 ∷ 101 ∷ 102 ∷ 117 ∷ 115 ∷ 101 ∷ 100 ∷ 32 ∷ []} (omega arith) p.ensures (then {t = 10 ∷ []} (omega arith) q.ensures.put r.ensures)); upper_bound = omega arith }
