-- The least start of resumable work: what the search finds is the definition's, and the candidates tried in rising order find it.
use mathlib.Core.Path.{◌≡◌, refl, sym, ◌∙◌}
use mathlib.Core.Bool.{Bool, true, false}
use mathlib.Core.List.{List, [], ◌∷◌}
use Prim.Native.Nat.{ℕ, ◌+◌, ◌≤◌, ◌<◌}
use native.Mathlib.Omega.{arith}
use lib.ListN.{get_or}
use Rattle.calendar.specs.declared.Calendar.{Calendar}
use Rattle.calendar.specs.Limits.{last_asked, never}
use Rattle.calendar.specs.Search.{Found, nothing, at}
use Rattle.calendar.specs.Work.{working, work_end, joint_end}
use Rattle.cells.specs.Cells.{before}
use Rattle.calendar_work.specs.Layout.{laid, Layout}
use Rattle.calendar_joint.proofs.Ending.{layout-end}
use Rattle.timeline.specs.declared.ResourceTimeline.{ResourceTimeline}
use Rattle.timeline.specs.Bookings.{Booking, bookings}
use Rattle.timeline.specs.Valid.{valid}
use Rattle.timeline.specs.Free.{free}
use Rattle.timeline.specs.Earliest.{free_to, starts_at, last_event, earliest_resumable}
use Rattle.timeline.specs.Ask.{ended, resumed}
use Rattle.timeline_candidates.specs.Steps.{StartCandidates}
use Rattle.timeline.specs.Laws.Rules.{rules_of}
use Rattle.timeline.specs.Laws.Loading.{free-few, free-room}
use Rattle.timeline.specs.Laws.Searching.{Sought, sought-found, sought-none}
use Rattle.timeline.specs.Laws.Stepping.{starts-at-back, last-still, last-range, joint-one}
use Rattle.timeline_resume.proofs.Trying.{passed, all-passed}

module _ (t : ResourceTimeline) (v : valid t ≡ true) (from span u : ℕ) where
  start-found : (x : ℕ) → Sought (starts_at t span u) from x → starts_at t span u x ≡ true → earliest_resumable t from span u ≡ at x
  unfolding earliest_resumable
  start-found x s h = sought-found (starts_at t span u) from (last_event t) (λ y l. starts-at-back t span u y (last-still t (rules_of t v) y l)) x s h

  start_none : (x : ℕ) → from ≤ last_asked → never ≤ x → Sought (starts_at t span u) from x → earliest_resumable t from span u ≡ nothing
  unfolding earliest_resumable
  start_none x a b s = sought-none (starts_at t span u) from (last_event t) x s (omega (arith, last-range t (rules_of t v)))

-- units above the capacity are never free
no-start-above : (t : ResourceTimeline) (u s : ℕ) (f : Found) → t.capacity < u → free_to t u s f ≡ false
unfolding free_to
no-start-above t u s nothing h = refl
no-start-above t u s (at e) h = free-few t.capacity (bookings t) u s e h

pub start-above : (t : ResourceTimeline) → valid t ≡ true → (from work u : ℕ) → from ≤ last_asked → t.capacity < u → earliest_resumable t from work u ≡ nothing
unfolding starts_at
start-above t v from work u a h =
    start_none t v from work u never a (omega arith) (record { low = omega arith; none = λ y b c. no-start-above t u y (joint_end (t.calendar ∷ []) y work) h })

-- the reply of resumable work
resumed-at : (t : ResourceTimeline) (work s e : ℕ) (f : Found) → f ≡ at s → joint_end (t.calendar ∷ []) s work ≡ at e → ended s (at e) ≡ resumed t work f
unfolding resumed
resumed-at t work s e f q h = rw (q, h) refl

pub resumed-none : (t : ResourceTimeline) (work s : ℕ) (f : Found) → f ≡ nothing → ended s nothing ≡ resumed t work f
unfolding resumed ended
resumed-none t work s f q = rw q refl

-- the bookings leave room from s up to the work's end
unfoldable pub free_until : List Booking → ℕ → ℕ → Found → Bool
free_until bs room s nothing = false
free_until bs room s (at e) = free room bs 0 s e

pub until_end : (bs : List Booking) (room s e : ℕ) (f : Found) (b : Bool) → f ≡ at e → free room bs 0 s e ≡ b → free_until bs room s f ≡ b
unfolding free_until
until_end bs room s e f b q h = rw q h

pub until_none : (bs : List Booking) (room s : ℕ) (f : Found) → f ≡ nothing → free_until bs room s f ≡ false
unfolding free_until
until_none bs room s f q = rw q refl

-- work that starts at s ends over the edges by then
abbrev pub end_over : List ℕ → ℕ → ℕ → ℕ → Found
end_over edges m work s = work_end (before edges m) (laid edges m) s work

end-over : (c : Calendar) (edges : List ℕ) (m work s : ℕ) → Layout (working c) edges m → end_over edges m work s ≡ joint_end (c ∷ []) s work
end-over c edges m work s y = layout-end (c ∷ []) (working c) edges m s work y (λ p l. sym (joint-one c p))

module _ (t : ResourceTimeline) (v : valid t ≡ true) (from : ℕ) (ws xs : List ℕ) (n : ℕ) (c : StartCandidates t from ws xs n) (a : from ≤ last_asked) (span u room : ℕ) (q : u + room ≡ t.capacity) (edges : List ℕ) (m : ℕ) (y : Layout (working t.calendar) edges m) where
  -- room is what the capacity leaves beside u
  free-until : (s : ℕ) (f : Found) → free_until (bookings t) room s f ≡ free_to t u s f
  unfolding free_until free_to
  free-until s nothing = refl
  free-until s (at e) = free-room t.capacity (bookings t) u s e room q

  -- the ends of the work are those over the edges
  starts-over : (s : ℕ) → free_until (bookings t) room s (end_over edges m span s) ≡ starts_at t span u s
  unfolding starts_at
  starts-over s = rw (end-over t.calendar edges m span s y) (free-until s (joint_end (t.calendar ∷ []) s span))

  pub start-listed : (i e : ℕ) → i < n → ((k : ℕ) → k < i → free_until (bookings t) room (get_or xs k 0) (end_over edges m span (get_or xs k 0)) ≡ false)
      → end_over edges m span (get_or xs i 0) ≡ at e → free room (bookings t) 0 (get_or xs i 0) e ≡ true
      → ended (get_or xs i 0) (at e) ≡ resumed t span (earliest_resumable t from span u)
  start-listed i e l f g h =
      resumed-at t span (get_or xs i 0) e (earliest_resumable t from span u)
      (start-found t v from span u (get_or xs i 0)
      (passed t v from ws xs n c a (starts_at t span u) (λ y s g. starts-at-back t span u y s g) i l (λ k d. sym (starts-over (get_or xs k 0)) ∙ f k d))
      (sym (starts-over (get_or xs i 0)) ∙ until_end (bookings t) room (get_or xs i 0) e _ true g h))
      (sym (end-over t.calendar edges m span (get_or xs i 0) y) ∙ g)

  pub start-unlisted : ((k : ℕ) → k < n → free_until (bookings t) room (get_or xs k 0) (end_over edges m span (get_or xs k 0)) ≡ false)
      → ended 0 nothing ≡ resumed t span (earliest_resumable t from span u)
  start-unlisted f =
      resumed-none t span 0 (earliest_resumable t from span u)
      (start_none t v from span u never a (omega arith)
      (all-passed t v from ws xs n c a (starts_at t span u) (λ y s g. starts-at-back t span u y s g) (λ k d. sym (starts-over (get_or xs k 0)) ∙ f k d)))
