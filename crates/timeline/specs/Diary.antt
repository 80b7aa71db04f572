-- 01, 'Diary': the capacity, the order of the bookings, their running latest ends and total, and so the diary that holds some bookings.
use Rattle.std.specs.Prelude.{ℕ, ◌-◌, max, cond, List, [], ◌∷◌, ◌++◌, map, length, replicate, ℤ, pos, negsuc, leb}
use Rattle.calendar.specs.declared.Calendar.{Calendar}
use Rattle.calendar.specs.Add.{empty, no_calendar}
use Rattle.timeline.specs.declared.ResourceTimeline.{ResourceTimeline}
use Rattle.timeline.specs.Bookings.{Booking, total}

-- the capacity is max(given, 1)
unfoldable pub capacity_of : ℤ → ℕ
capacity_of (pos n) = max 1 n
capacity_of (negsuc n) = 1

-- what has a start goes behind those that start at or before it
unfoldable pub insert_by_start : {X : Type 0} → (X → ℕ) → X → List X → List X
insert_by_start start x [] = x ∷ []
insert_by_start start x (y ∷ ys) = cond (leb (start y) (start x)) (y ∷ insert_by_start start x ys) (x ∷ y ∷ ys)

-- and so does a booking
abbrev pub insert_booking : Booking → List Booking → List Booking
insert_booking b bs = insert_by_start (λ x. x.start) b bs

-- 64 cells: the list, then zeros
abbrev pub cells : List ℕ → List ℕ
cells xs = xs ++ replicate (64 - length xs) 0

-- the running latest ends, m being the latest so far
unfoldable pub latest_ends : ℕ → List Booking → List ℕ
latest_ends m [] = []
latest_ends m (b ∷ bs) = max m b.end ∷ latest_ends (max m b.end) bs

-- the diary with this capacity and calendar that holds these bookings
unfoldable pub diary : ℕ → Calendar → List Booking → ResourceTimeline
diary capacity c bs = record {
  capacity = capacity;
  calendar = c;
  starts = cells (map (λ b. b.start) bs);
  ends = cells (map (λ b. b.end) bs);
  units = cells (map (λ b. b.units) bs);
  latest = cells (latest_ends 0 bs);
  len = length bs;
  booked = total bs;
}

-- a new diary: no bookings, no calendar
abbrev pub new_diary : ℤ → ResourceTimeline
new_diary given = diary (capacity_of given) empty []

-- 0 throughout, its capacity too: a cell past the length of a board
abbrev pub blank_diary : ResourceTimeline
blank_diary = diary 0 empty []

-- what is read past an array's end: an array of it has no cell
abbrev pub no_diary : ResourceTimeline
no_diary = record { capacity = 0; calendar = no_calendar; starts = []; ends = []; units = []; latest = []; len = 0; booked = 0 }

-- the diary with other bookings
abbrev pub with_bookings : ResourceTimeline → List Booking → ResourceTimeline
with_bookings t bs = diary t.capacity t.calendar bs

-- the diary with another calendar
unfoldable pub with_calendar : ResourceTimeline → Calendar → ResourceTimeline
with_calendar t c = record {
  capacity = t.capacity;
  calendar = c;
  starts = t.starts;
  ends = t.ends;
  units = t.units;
  latest = t.latest;
  len = t.len;
  booked = t.booked;
}
