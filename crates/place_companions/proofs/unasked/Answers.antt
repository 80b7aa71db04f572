-- `place_companions::unasked` meets its contract.
use mathlib.Core.Path.{refl}
use Rattle.place_companions.proofs.unasked.Goals as goal

pub returns : goal.returns
returns c = refl
