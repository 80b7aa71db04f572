-- 01, 'Diary': when units are free over a span.
use Rattle.std.specs.Prelude.{ℕ, ◌+◌, ◌-◌, Bool, ◌&&◌, cond, List, [], ◌∷◌, leb, ltb}
use Rattle.cells.specs.Every.{every_from}
use Rattle.timeline.specs.Bookings.{Booking}

-- a booking overlaps the span [s, e) when its start < e and s < its end
unfoldable pub overlaps : Booking → ℕ → ℕ → Bool
overlaps b s e = ltb b.start e && ltb s b.end

-- it overlaps, and start ≤ p < end
unfoldable pub on_at : Booking → ℕ → ℕ → ℕ → Bool
on_at b s e p = overlaps b s e && (leb b.start p && ltb p b.end)

-- the units of the bookings that a test picks
unfoldable pub tally : (Booking → Bool) → List Booking → ℕ
tally P [] = 0
tally P (b ∷ bs) = cond (P b) b.units 0 + tally P bs

-- the load at instant p: the units of overlapping bookings with start ≤ p < end
unfoldable pub load : List Booking → ℕ → ℕ → ℕ → ℕ
load bs s e p = tally (λ b. on_at b s e p) bs

-- u more stay within the capacity at instant p
abbrev pub room_at : ℕ → List Booking → ℕ → ℕ → ℕ → ℕ → Bool
room_at capacity bs u s e p = leb (load bs s e p + u) capacity

-- u units are free over [s, e): u ≤ capacity, and at p = s and every p with s ≤ p < e, load + u ≤ capacity
unfoldable pub free : ℕ → List Booking → ℕ → ℕ → ℕ → Bool
free capacity bs u s e = leb u capacity && (room_at capacity bs u s e s && every_from (room_at capacity bs u s e) s (e - s))
