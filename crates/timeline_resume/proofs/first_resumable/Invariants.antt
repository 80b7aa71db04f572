-- `timeline_resume::first_resumable` meets its contract. The loop: the work starts at none of the first i candidates (Trying).
use mathlib.Core.Path.{◌≡◌}
use mathlib.Core.Bool.{false}
use Prim.Native.Nat.{ℕ, ◌<◌}
use lib.ListN.{take, length, get_or}
use Rattle.timeline.specs.Bookings.{bookings}
use Rattle.timeline_resume.proofs.Finding.{free_until, end_over}
use Rattle.timeline_resume.proofs.first_resumable.Given as goal

abbrev pub invariant-loop-i : goal.invariant-loop-i
invariant-loop-i l =
    (length l.listed ≡ 129) × (length l.edges ≡ 128)
    × ((k : ℕ) → k < l.i → free_until (bookings l.t) l.room (get_or l.listed k 0) (end_over (take l.m l.edges) (length (take l.m l.edges)) l.work (get_or l.listed k 0)) ≡ false)
