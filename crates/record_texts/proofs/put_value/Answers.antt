-- `record_texts::put_value` meets its contract: a space, and the number behind it.
use borrow.Author.Rules.{rules}
use native.Mathlib.Omega.{arith}
use mathlib.Core.List.{[], ◌∷◌}
use Rattle.record_texts.specs.Laws.Putting.{then}
use Rattle.record_texts.proofs.put_value.Goals as goal

pub returns : goal.returns
returns c =
    let p = c.put-a in
    let q = c.put_number in
    record { put = then {s = 32 ∷ []} (omega (arith, p.ensures.end)) p.ensures q.ensures.put; upper_bound = omega (arith, p.ensures.end, q.ensures.upper_bound) }
