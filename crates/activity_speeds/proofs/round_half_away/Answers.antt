-- `activity_speeds::round_half_away` meets its contract. What the code reads of the bit pattern is the value's own digits and exponent (`proofs/Rounding.antt`).
use mathlib.Core.Path.{◌≡◌, sym, ap, ◌∙◌, subst}
use Prim.Native.Nat.{ℕ, ◌+◌, ◌-◌, ◌/◌, ◌^◌, ◌≤◌, ◌<◌}
use native.Mathlib.Omega.{arith}
use borrow.Author.Rules.{rules}
use lib.Dec.{T}
use lib.Ieee.{binary64, fits}
use Rattle.activity_speeds.proofs.Rounding.{field, digits, digits_lt, up-to-real, up-to-finite, field-le, away-small, away-mid, end_whole, end-cut, shift-lt, shift_is}
use Rattle.activity_speeds.proofs.round_half_away.Goals as goal

-- what owning an `f64` tells: the format holds it
held : (c : goal.Start) → T (fits binary64 c.args.x)
held c = subst T (sym c.well_formed.0.1) tt

in-range : (c : goal.Start) → field c.args.x ≤ 1075
in-range c = field-le c.args.x (held c) c.requires

pub float_to_bits-bits : goal.float_to_bits-bits
float_to_bits-bits c = up-to-real (2 ^ 52) c.args.x c.requires

pub returns-then-field-lt1022 : goal.returns-then-field-lt1022
returns-then-field-lt1022 c =
    let x = c.args.x in
    let k : field x < 1022 = omega arith in
    sym (away-small x (held c.before) (up-to-finite (2 ^ 52) x c.requires) k)

pub overflow_sub-drop : goal.overflow_sub-drop
overflow_sub-drop c = in-range c.before

pub returns-then-drop-eq0 : goal.returns-then-drop-eq0
returns-then-drop-eq0 c =
    let x = c.args.x in
    let k : 1022 ≤ field x = omega arith in
    let z : 1075 - field x ≡ 0 = omega arith in
    end_whole (4503599627370496 + digits x) (1075 - field x) z ∙ sym (away-mid x (held c.before.before) (up-to-finite (2 ^ 52) x c.requires) k (in-range c.before.before))

pub overflow_add-result : goal.overflow_add-result
overflow_add-result c =
    let x = c.args.x in
    let k : 1075 - field x ≤ 53 = omega arith in
    omega (arith, digits_lt x, shift-lt (1075 - field x) k, shift_is (1075 - field x) k)

pub returns : goal.returns
returns c =
    let x = c.args.x in
    let w = 4503599627370496 + digits x in
    let d = 1075 - field x in
    let k : 1022 ≤ field x = omega arith in
    let small : 1075 - field x ≤ 53 = omega arith in
    let some : 0 < 1075 - field x = omega arith in
    ap (λ (y : ℕ). (w + y) / 2 ^ d) (shift_is d small)
    ∙ end-cut w d some
    ∙ sym (away-mid x (held c.before.before) (up-to-finite (2 ^ 52) x c.requires) k (in-range c.before.before))
