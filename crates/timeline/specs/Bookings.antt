-- 01, 'Diary': the bookings of a diary as a list, in its order; bookings counted with repeats.
use Rattle.std.specs.Prelude.{ℕ, zero, suc, ◌+◌, ◌-◌, ◌*◌, ◌≤◌, Bool, ◌&&◌, cond, List, [], ◌∷◌, ◌++◌, map, get_or, eqb}
use Rattle.calendar.specs.Search.{greatest_of}
use Rattle.timeline.specs.declared.ResourceTimeline.{ResourceTimeline}

pub record Booking : Type 0 where
  pub start : ℕ
  pub end : ℕ
  pub units : ℕ

-- so many units from a start to an end
abbrev pub booking : ℕ → ℕ → ℕ → Booking
booking s e u = record { start = s; end = e; units = u }

abbrev pub booking_at : List ℕ → List ℕ → List ℕ → ℕ → Booking
booking_at ss es us i = booking (get_or ss i 0) (get_or es i 0) (get_or us i 0)

-- the bookings of the first n cells
unfoldable pub bookings_to : List ℕ → List ℕ → List ℕ → ℕ → List Booking
bookings_to ss es us zero = []
bookings_to ss es us (suc n) = bookings_to ss es us n ++ (booking_at ss es us n ∷ [])

abbrev pub bookings : ResourceTimeline → List Booking
bookings t = bookings_to t.starts t.ends t.units t.len

-- the booked total: the sum of length times units
unfoldable pub total : List Booking → ℕ
total [] = 0
total (b ∷ bs) = (b.end - b.start) * b.units + total bs

-- the latest end, 0 where there is no booking
unfoldable pub latest_end : List Booking → ℕ
latest_end bs = greatest_of (map (λ b. b.end) bs)

unfoldable pub same : Booking → Booking → Bool
same a b = eqb a.start b.start && (eqb a.end b.end && eqb a.units b.units)

-- how often b is among the bookings
unfoldable pub times : Booking → List Booking → ℕ
times b [] = 0
times b (x ∷ xs) = cond (same b x) 1 0 + times b xs

-- the second list holds each booking of the first, counted with repeats
abbrev pub Within : List Booking → List Booking → Type 0
Within bs cs = (b : Booking) → times b bs ≤ times b cs
