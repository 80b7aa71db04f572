-- `place_fit::own_timeline` meets its contract.
use Rattle.std.proofs.Common.{refl}
use Rattle.timeline.specs.Diary.{diary, capacity_of}
use Rattle.place_fit.proofs.own_timeline.Goals as goal

pub returns : goal.returns
unfolding diary capacity_of
returns c = rw c.new.ensures.0 refl
