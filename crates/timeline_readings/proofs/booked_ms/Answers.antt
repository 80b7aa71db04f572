-- `timeline_readings::booked_ms` meets its contract: a diary that keeps the rules has its total in its cell.
use mathlib.Core.Path.{◌≡◌, refl, ap, ◌∙◌}
use mathlib.Core.Bool.{Bool, true, false, not, cond}
use Rattle.timeline.specs.declared.ResourceTimeline.{ResourceTimeline}
use Rattle.timeline.specs.Bookings.{bookings, total}
use Rattle.timeline.specs.Valid.{valid}
use Rattle.timeline.specs.Laws.Rules.{rules_of}
use Rattle.timeline_readings.specs.Reading.{value, refused, read, booked_read}
use Rattle.timeline_readings.proofs.booked_ms.Goals as goal

total-read : (t : ResourceTimeline) → read t t.booked ≡ booked_read t
unfolding read
total-read t = go (valid t) refl
  where
    go : (v : Bool) → valid t ≡ v → cond (not v) (refused 15) (value t.booked) ≡ cond (not v) (refused 15) (value (total (bookings t)))
    go true e = ap value (rules_of t e).sum
    go false e = refl

pub returns : goal.returns
returns c = c.checked.ensures ∙ total-read _
