-- Demand 3: two boards alike but for extra bookings, one order and one ready time.
use Rattle.std.specs.Prelude.{◌≡◌, List, length}
use Prim.Native.Nat.{ℕ, ◌≤◌}
use Rattle.std.proofs.Math.ListN.{take}
use Rattle.calendar.specs.Search.{at}
use Rattle.activity.specs.declared.Activity.{Activity}
use Rattle.board.specs.declared.Board.{Board}
use Rattle.scheduler.specs.Placing.{Placement, placed, place_reply, slate_after, choosing_instant, refusal_of}
use Rattle.scheduler.specs.Rows.{Row}
use Rattle.cells.specs.Every.{Each}
use Rattle.scheduler.specs.Alike.{NoExtra}

-- Two boards alike but for extra bookings on the second, one order, one ready time, and two slates, both under 24 entries or neither.
pub record Demand3 (b c : Board) (a : Activity) (ready : ℕ) (slate other : List Row) : Type 0 where
  -- where the first gives a placement and no extra is on a resource it reports, the placement comes out identical on the second ..
  pub same-placement : (p : Placement) → place_reply b a ready (length slate) ≡ placed p → Each (λ x. NoExtra b c x.number) p.entries
      → place_reply c a ready (length other) ≡ placed p
  -- .. and so do the rows of the slate that it writes
  pub same_rows : (p : Placement) → place_reply b a ready (length slate) ≡ placed p → Each (λ x. NoExtra b c x.number) p.entries
      → take (length p.entries) (slate_after (place_reply c a ready (length other)) other) ≡ take (length p.entries) (slate_after (place_reply b a ready (length slate)) slate)
  -- wherever the extras are, the second's choosing instant exists only if the first's does and is never earlier
  pub never-earlier : (u : ℕ) → choosing_instant (place_reply c a ready (length other)) ≡ at u → (t : ℕ) × (choosing_instant (place_reply b a ready (length slate)) ≡ at t) × (t ≤ u)
  -- the second refuses exactly when the first does, with the same number
  pub same-refusal : refusal_of (place_reply b a ready (length slate)) ≡ refusal_of (place_reply c a ready (length other))
