-- An unbroken span on a diary: what the search finds is the definition's least start, and the candidates tried in rising order find it.
use mathlib.Core.Path.{◌≡◌, refl, sym, ◌∙◌}
use mathlib.Core.Bool.{Bool, true, false, ◌&&◌, and-false}
use mathlib.Core.List.{List}
use Prim.Native.Nat.{ℕ, ◌+◌, ◌≤◌, ◌<◌}
use native.Mathlib.Omega.{arith}
use lib.ListN.{get_or}
use Rattle.calendar.specs.declared.Calendar.{Calendar}
use Rattle.calendar.specs.Limits.{last_asked, never}
use Rattle.cells.specs.Laws.Basics.{and-join}
use Rattle.calendar.specs.Search.{nothing, at}
use Rattle.calendar.specs.Fits.{fits}
use Rattle.timeline.specs.declared.ResourceTimeline.{ResourceTimeline}
use Rattle.timeline.specs.Bookings.{Booking, bookings}
use Rattle.timeline.specs.Valid.{valid}
use Rattle.timeline.specs.Free.{free}
use Rattle.timeline.specs.Earliest.{fits_at, last_event, earliest_fit}
use Rattle.timeline_candidates.specs.Steps.{StartCandidates}
use Rattle.timeline.specs.Laws.Rules.{rules_of}
use Rattle.timeline.specs.Laws.Loading.{free-few, free-room}
use Rattle.timeline.specs.Laws.Searching.{Sought, sought-found, sought-none}
use Rattle.timeline.specs.Laws.Stepping.{fits-at-back, last-still, last-range}
use Rattle.timeline_resume.proofs.Trying.{passed, all-passed}

module _ (t : ResourceTimeline) (v : valid t ≡ true) (from span u : ℕ) where
  pub fit_found : (x : ℕ) → Sought (fits_at t span u) from x → fits_at t span u x ≡ true → earliest_fit t from span u ≡ at x
  unfolding earliest_fit
  fit_found x s h = sought-found (fits_at t span u) from (last_event t) (λ y l. fits-at-back t span u y (last-still t (rules_of t v) y l)) x s h

  fit_none : (x : ℕ) → from ≤ last_asked → never ≤ x → Sought (fits_at t span u) from x → earliest_fit t from span u ≡ nothing
  unfolding earliest_fit
  fit_none x a b s = sought-none (fits_at t span u) from (last_event t) x s (omega (arith, last-range t (rules_of t v)))

-- units above the capacity are never free
above-no : (t : ResourceTimeline) (span u y : ℕ) → t.capacity < u → fits_at t span u y ≡ false
unfolding fits_at
above-no t span u y h = rw (free-few t.capacity (bookings t) u y (y + span) h) (and-false (fits t.calendar y (y + span)))

pub fit-above : (t : ResourceTimeline) → valid t ≡ true → (from span u : ℕ) → from ≤ last_asked → t.capacity < u → earliest_fit t from span u ≡ nothing
fit-above t v from span u a h = fit_none t v from span u never a (omega arith) (record { low = omega arith; none = λ y b c. above-no t span u y h })

-- the span fits at s, where the bookings leave room
unfoldable pub fits_over : Calendar → List Booking → ℕ → ℕ → ℕ → Bool
fits_over c bs room span s = fits c s (s + span) && free room bs 0 s (s + span)

pub over_yes : (c : Calendar) (bs : List Booking) (room span s : ℕ) → fits c s (s + span) ≡ true → free room bs 0 s (s + span) ≡ true → fits_over c bs room span s ≡ true
unfolding fits_over
over_yes c bs room span s a b = and-join _ _ a b

pub over-shut : (c : Calendar) (bs : List Booking) (room span s : ℕ) → fits c s (s + span) ≡ false → fits_over c bs room span s ≡ false
unfolding fits_over
over-shut c bs room span s a = rw a refl

pub over-full : (c : Calendar) (bs : List Booking) (room span s : ℕ) → free room bs 0 s (s + span) ≡ false → fits_over c bs room span s ≡ false
unfolding fits_over
over-full c bs room span s b = rw b (and-false (fits c s (s + span)))

module _ (t : ResourceTimeline) (v : valid t ≡ true) (from : ℕ) (ws xs : List ℕ) (n : ℕ) (c : StartCandidates t from ws xs n) (a : from ≤ last_asked) (span u room : ℕ) (q : u + room ≡ t.capacity) where
  -- room is what the capacity leaves beside u
  fits-over : (s : ℕ) → fits_over t.calendar (bookings t) room span s ≡ fits_at t span u s
  unfolding fits_over fits_at
  fits-over s = rw (free-room t.capacity (bookings t) u s (s + span) room q) refl

  pub fit-listed : (i : ℕ) → i < n → ((k : ℕ) → k < i → fits_over t.calendar (bookings t) room span (get_or xs k 0) ≡ false)
      → fits_over t.calendar (bookings t) room span (get_or xs i 0) ≡ true → earliest_fit t from span u ≡ at (get_or xs i 0)
  fit-listed i l f h =
      fit_found t v from span u (get_or xs i 0)
      (passed t v from ws xs n c a (fits_at t span u) (λ y s g. fits-at-back t span u y s g) i l (λ k d. sym (fits-over (get_or xs k 0)) ∙ f k d))
      (sym (fits-over (get_or xs i 0)) ∙ h)

  pub fit-unlisted : ((k : ℕ) → k < n → fits_over t.calendar (bookings t) room span (get_or xs k 0) ≡ false) → earliest_fit t from span u ≡ nothing
  fit-unlisted f =
      fit_none t v from span u never a (omega arith)
      (all-passed t v from ws xs n c a (fits_at t span u) (λ y s g. fits-at-back t span u y s g) (λ k d. sym (fits-over (get_or xs k 0)) ∙ f k d))
