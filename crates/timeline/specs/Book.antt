-- 01, 'Booking': the replies; and those of a window or block of a diary.
use Rattle.std.specs.Prelude.{ℕ, zero, suc, not, cond, ◌||◌, leb, ltb}
use Rattle.calendar.specs.Limits.{last_instant, most_units, most_bookings}
use Rattle.calendar.specs.Replies.{Added}
use Rattle.timeline.specs.declared.ResourceTimeline.{ResourceTimeline}
use Rattle.timeline.specs.declared.Booked.{Booked}
use Rattle.timeline.specs.Bookings.{booking, bookings}
use Rattle.timeline.specs.Diary.{insert_booking, with_bookings, with_calendar}
use Rattle.timeline.specs.Valid.{valid}

-- the number that refuses a booking: 15 before all else; 1 instant; 2 end ≤ start; 3 units outside 1 to 10,000; 4 a 65th; 0 for none
unfoldable pub book_refusal : ResourceTimeline → ℕ → ℕ → ℕ → ℕ
book_refusal t s e u =
    cond (not (valid t)) 15
    (cond (ltb last_instant s || ltb last_instant e) 1
    (cond (leb e s) 2
    (cond (ltb u 1 || ltb most_units u) 3
    (cond (leb most_bookings t.len) 4 0))))

-- a refused booking leaves the diary as it was
unfoldable pub taken : ℕ → ResourceTimeline → ResourceTimeline → Booked
taken zero t more = record { refusal = 0; timeline = more }
taken (suc n) t more = record { refusal = suc n; timeline = t }

-- the diary with one booking more
abbrev pub with_booking : ResourceTimeline → ℕ → ℕ → ℕ → ResourceTimeline
with_booking t s e u = with_bookings t (insert_booking (booking s e u) (bookings t))

unfoldable pub book_reply : ResourceTimeline → ℕ → ℕ → ℕ → Booked
book_reply t s e u = taken (book_refusal t s e u) t (with_booking t s e u)

-- a window or a block on the diary's calendar
unfoldable pub calendar_reply : ResourceTimeline → Added → Booked
calendar_reply t a =
    cond (not (valid t)) (record { refusal = 15; timeline = t })
    (record { refusal = a.refusal; timeline = with_calendar t a.calendar })
