-- `activity_speeds::is_speed` meets its contract. A literal is its bit pattern in the code and `fin s m e` in the definition: `of_bits` unfolded, they are one value.
use mathlib.Core.Path.{sym, ap, ◌∙◌}
use mathlib.Core.Bool.{Bool, ◌&&◌}
use lib.Ieee.{le, of_bits}
use Rattle.activity_speeds.specs.Speeds.{is_speed, four}
use Rattle.activity_speeds.proofs.is_speed.Goals as goal

pub returns-then-s : goal.returns-then-s
unfolding is_speed of_bits
returns-then-s c = sym (ap (λ (b : Bool). b && le c.args.s four) c.if-s.true)

pub returns-else-s : goal.returns-else-s
unfolding is_speed of_bits
returns-else-s c = c.if-s.false ∙ sym (ap (λ (b : Bool). b && le c.args.s four) c.if-s.false)
