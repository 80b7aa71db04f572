-- `scheduler::rows::row_of` meets its contract.
use mir.Val.{bool_byte}
use Rattle.std.proofs.Common.{◌≡◌, refl, Bool, true, false, cond}
use Rattle.scheduler.specs.Rows.{row_of}
use Rattle.scheduler.proofs.rows.row_of.Goals as goal

byte-is : (b : Bool) → bool_byte b ≡ cond b 1 0
byte-is true = refl
byte-is false = refl

pub returns : goal.returns
unfolding row_of
returns c = rw (c.from.ensures, c.from-2.ensures, c.from-3.ensures, byte-is c.args.e.companion) refl
