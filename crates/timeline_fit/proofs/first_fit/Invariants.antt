-- `timeline_fit::first_fit` meets its contract. The loop: the span fits at none of the first i candidates (Trying).
use mathlib.Core.Path.{◌≡◌}
use mathlib.Core.Bool.{false}
use Prim.Native.Nat.{ℕ, ◌<◌}
use lib.ListN.{length, get_or}
use Rattle.timeline.specs.Bookings.{bookings}
use Rattle.timeline_fit.proofs.Fitting.{fits_over}
use Rattle.timeline_fit.proofs.first_fit.Given as goal

abbrev pub invariant-loop-i : goal.invariant-loop-i
invariant-loop-i l =
    (length l.listed ≡ 129) × ((k : ℕ) → k < l.i → fits_over l.t.calendar (bookings l.t) l.room l.span (get_or l.listed k 0) ≡ false)
