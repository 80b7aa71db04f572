-- The order's own calendar as a diary that nothing books, in front of the entries' diaries: together they suit as they do apart.
use Rattle.std.specs.Prelude.{◌≡◌, refl, Bool, true, false, ◌&&◌, List, [], ◌∷◌, map, ℕ, suc, ◌+◌, ◌-◌, ◌≤◌, max}
use Rattle.std.proofs.Common.{sym, ap, ◌∙◌, arith}
use Rattle.std.proofs.Math.Bool.{and_comm, and-true}
use Rattle.cells.specs.Every.{every, each_end, each_on}
use Rattle.calendar.specs.declared.Calendar.{Calendar}
use Rattle.cells.specs.Laws.Basics.{and_split, and-join, not-both}
use Rattle.calendar.specs.Search.{Found, nothing, at, least_from, greatest_of}
use Rattle.calendar.specs.Valid as calendar
use Rattle.calendar.specs.Fits.{fits}
use Rattle.calendar.specs.Work.{working, joint, last_change, joint_end}
use Rattle.calendar.specs.Laws.Searching.{least-same}
use Rattle.calendar.specs.Laws.WorkEnds.{joint-changeless, work-end-back}
use Rattle.calendar.specs.Laws.StepsBack.{working-back}
use Rattle.calendar.specs.Theorems.Meaning.{joint-end-found}
use Rattle.timeline.specs.Bookings.{bookings_to, latest_end}
use Rattle.timeline.specs.Valid.{valid}
use Rattle.timeline.specs.Diary.{diary}
use Rattle.timeline.specs.Free.{tally, load}
use Rattle.timeline.specs.Earliest.{free_on, fits_at, last_event}
use Rattle.timeline.specs.Laws.Loading.{free-yes}
use Rattle.timeline.specs.Laws.Keeping.{diary-keeps, order_end, bookings-diary}
use Rattle.timeline.specs.Laws.Stepping.{free-on-back}
use Rattle.scheduler.specs.Alone.{Share, can_start, all_start, last_of}
use Rattle.scheduler.specs.Fitting.{calendar_of, fits_all, all_free, free_to_end, starts_all, suits, last_all, fitting}
use Rattle.scheduler.specs.Laws.Together.{Calm, all_back}
use Rattle.scheduler.specs.Shares.{own_share}

pub own-valid : (own : Calendar) → calendar.valid own ≡ true → valid (own_share own).timeline ≡ true
own-valid own v = diary-keeps 1 own [] v (omega arith) (omega arith) (omega arith) order_end

own-free : (own : Calendar) (s e : ℕ) → free_on (own_share own).timeline 1 s e ≡ true
unfolding diary bookings_to load tally
own-free own s e = free-yes 1 [] 1 s e (record { few = omega arith; fits = λ p w. omega arith })

-- on all of them: the test of the definition
unfoldable pub suits_on : Bool → List Share → ℕ → ℕ → Bool
suits_on true ys span s = free_to_end ys s (joint_end (map calendar_of ys) s span)
suits_on false ys span s = all_start false span ys s

-- where nothing happens on any of them at an instant, what can start there can start a millisecond sooner
joint-back : (xs : List Share) (y : ℕ) → Calm (suc y) xs → joint (map calendar_of xs) (suc y) ≡ true → joint (map calendar_of xs) y ≡ true
unfolding joint every
joint-back [] y each_end h = refl
joint-back (x ∷ xs) y (each_on s c) h =
    let w = and_split (working x.timeline.calendar (suc y)) (joint (map calendar_of xs) (suc y)) h in
    and-join (working x.timeline.calendar y) (joint (map calendar_of xs) y) (working-back x.timeline.calendar y s.quiet w.0) (joint-back xs y c w.1)

all-free-back : (xs : List Share) (y e d : ℕ) → Calm (suc y) xs → e ≤ d → all_free xs (suc y) d ≡ true → all_free xs y e ≡ true
unfolding all_free every
all-free-back [] y e d each_end l h = refl
all-free-back (x ∷ xs) y e d (each_on s c) l h =
    let w = and_split (free_on x.timeline x.units (suc y) d) (all_free xs (suc y) d) h in
    and-join (free_on x.timeline x.units y e) (all_free xs y e) (free-on-back x.timeline x.units y e d s l w.0) (all-free-back xs y e d c l w.1)

pub suits-on-back : (resumable : Bool) (ys : List Share) (span y : ℕ) → Calm (suc y) ys → suits_on resumable ys span (suc y) ≡ true → suits_on resumable ys span y ≡ true
unfolding suits_on free_to_end
suits-on-back true ys span y calm h = go (joint_end (map calendar_of ys) (suc y) span) refl h
  where
    go : (f : Found) → joint_end (map calendar_of ys) (suc y) span ≡ f → free_to_end ys (suc y) f ≡ true → free_to_end ys y (joint_end (map calendar_of ys) y span) ≡ true
    go nothing e g = absurd (not-both false g refl)
    go (at d) e g =
        let here = joint-back ys y calm (joint-end-found (map calendar_of ys) (suc y) span d e).0 in
        let r = work-end-back (last_change (map calendar_of ys)) (joint (map calendar_of ys)) y span d (joint-changeless (map calendar_of ys)) here e in
        rw r.1 (all-free-back ys y r.0 d calm r.2 g)
suits-on-back false ys span y calm h = all_back false span ys y calm h

-- the least start ≥ from on all of them
unfoldable pub least_on : Bool → List Share → ℕ → ℕ → Found
least_on resumable ys span from = least_from (suits_on resumable ys span) from (suc (last_of ys - from))

own-fits : (own : Calendar) (span s : ℕ) → can_start false span (own_share own) s ≡ fits own s (s + span)
unfolding can_start fits_at diary
own-fits own span s = rw (own-free own s (s + span)) (and-true (fits own s (s + span)))

pub suits-on : (resumable : Bool) (xs : List Share) (own : Calendar) (span s : ℕ) → suits resumable xs own span s ≡ suits_on resumable (own_share own ∷ xs) span s
unfolding suits suits_on starts_all fits_all all_start free_to_end all_free diary every
suits-on true xs own span s = go (joint_end (own ∷ map calendar_of xs) s span)
  where
    go : (f : Found) → free_to_end xs s f ≡ free_to_end (own_share own ∷ xs) s f
    go nothing = refl
    go (at e) = sym (ap (λ (p : Bool). p && all_free xs s e) (own-free own s e))
suits-on false xs own span s = and_comm (all_start false span xs s) (fits own s (s + span)) ∙ ap (λ (p : Bool). p && all_start false span xs s) (sym (own-fits own span s))

-- nothing changes on the order's own calendar but its own edges
pub own-last : (own : Calendar) (xs : List Share) → last_of (own_share own ∷ xs) ≡ last_all xs own
unfolding last_of last_all last_event diary latest_end greatest_of
own-last own xs = rw (bookings-diary 1 own []) (go (last_change (own ∷ [])) (last_of xs))
  where
    go : (m n : ℕ) → max (max m 0) n ≡ max m n
    go m n = omega arith

-- the definition's search is that on all of them
pub fitting-on : (resumable : Bool) (xs : List Share) (own : Calendar) (span from : ℕ) → fitting resumable xs own span from ≡ least_on resumable (own_share own ∷ xs) span from
unfolding fitting least_on
fitting-on resumable xs own span from =
    ap (λ (n : ℕ). least_from (suits resumable xs own span) from (suc (n - from))) (sym (own-last own xs))
    ∙ least-same (suits resumable xs own span) (suits_on resumable (own_share own ∷ xs) span) from (suc (last_of (own_share own ∷ xs) - from)) (λ m l h. suits-on resumable xs own span m)
