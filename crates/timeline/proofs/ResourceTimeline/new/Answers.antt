-- `timeline::ResourceTimeline::new` meets its contract: its 64 empty cells compute.
-- A signed number that is passed on comes back as `to_z w32 (of_z w32 given)`, which `to_z-of_z` turns.
use mathlib.Core.Path.{◌≡◌, refl, ap, ◌∙◌}
use mathlib.Core.List.{[]}
use native.Mathlib.Omega.{arith}
use mir.Syntax.{w32}
use mir.ValLaws.{to_z-of_z}
use Rattle.calendar.specs.Add.{empty}
use Rattle.timeline.specs.Valid.{valid}
use Rattle.timeline.specs.Bookings.{total}
use Rattle.timeline.specs.Diary.{capacity_of, latest_ends, diary}
use Rattle.timeline.specs.Laws.Same.{agree}
use Rattle.timeline.specs.Laws.Keeping.{diary-keeps, order_end, always-open}
use Rattle.timeline.proofs.ResourceTimeline.new.Goals as goal

pub returns : goal.returns
unfolding diary latest_ends total
returns c =
    let e = c.capacity_of.ensures in
    let q : c.capacity_of.result ≡ capacity_of c.args.given =
    rw (to_z-of_z w32 c.args.given c.ranges.given) at e.0 in
    let s = agree _ (diary (capacity_of c.args.given) empty []) (record { capacity = q; calendar = c.new.ensures; starts = refl; ends = refl; units = refl; latest = refl; len = refl; booked = refl }) in
    (s, ap valid s ∙ diary-keeps _ empty [] always-open (rw (← q) e.1) (rw (← q) e.2) (omega arith) order_end)
