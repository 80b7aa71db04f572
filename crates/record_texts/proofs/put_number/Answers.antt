-- `record_texts::put_number` meets its contract: the digits are the fewest, so they are the definition's.
use borrow.Author.Rules.{rules}
use native.Mathlib.Omega.{arith}
use mathlib.Core.Path.{◌≡◌, ◌∙◌}
use Prim.Native.Nat.{◌≤◌}
use lib.ListN.{take, length-take}
use Rattle.record_texts.specs.Text.{decimal}
use Rattle.record_texts.proofs.Figures.{digits_decimal}
use Rattle.record_texts.proofs.put_number.Goals as goal

pub returns : goal.returns
returns c =
    let a = c.args in
    let d = c.decimal-k in
    let p = c.put in
    let s : d.result ≤ 20 = omega arith in
    let e : take d.result d.new.out ≡ decimal a.n = d.ensures.digits ∙ digits_decimal 19 a.n d.result s d.ensures.len in
    record { put = rw e at p.ensures; upper_bound = omega (arith, p.ensures.end, length-take d.result d.new.out) }
