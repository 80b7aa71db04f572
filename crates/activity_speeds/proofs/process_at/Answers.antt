-- `activity_speeds::process_at` meets its contract: the quotient is at most 2 ^ 36 * 4 ^ 8, which is 2 ^ 52 (`Bounds`).
use mathlib.Core.Path.{sym, ap, ◌∙◌}
use mathlib.Core.Bool.{Bool, cond}
use Prim.Native.Nat.{◌^◌}
use native.Mathlib.Nat.{le_trans}
use lib.IntN.{pos}
use lib.Dec.{lit≤}
use lib.Ieee.{binary64, of_bits, div, of_int}
use Rattle.activity_speeds.specs.Speeds.{process_at, round_away}
use Rattle.activity_speeds.proofs.Bounds.{in-float, div-up-to}
use Rattle.activity_speeds.proofs.process_at.Goals as goal

pub returns-then-speed : goal.returns-then-speed
unfolding process_at of_bits
returns-then-speed c =
    sym (ap (λ (b : Bool). cond b c.args.base (round_away (div binary64 (of_int binary64 (pos c.args.base)) c.args.speed))) c.if-speed.true)

pub int_to_float-base : goal.int_to_float-base
int_to_float-base c = in-float c.args.base (le_trans c.requires.base_bound (lit≤ tt))

pub round_half_away-requires : goal.round_half_away-requires
round_half_away-requires c =
    div-up-to c.args.base (2 ^ 36) 8 c.args.speed c.requires.base_bound (lit≤ tt) c.requires.within_power

pub returns : goal.returns
unfolding process_at of_bits
returns c =
    c.round_half_away.ensures
    ∙ sym (ap (λ (b : Bool). cond b c.args.base (round_away (div binary64 (of_int binary64 (pos c.args.base)) c.args.speed))) c.if-speed.false)
