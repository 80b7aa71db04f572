-- A span or work that fits one millisecond later fits here too, unless a window starts, a block ends or a booking ends there.
use Rattle.std.specs.Prelude.{◌≡◌, refl, true, List, [], ◌∷◌, ℕ, suc, ◌+◌, ◌^◌, ◌≤◌, ◌<◌, get_or, length}
use Rattle.std.proofs.Common.{sym, ap, ◌∙◌, inl, inr, ⊎_elim, eq-or-lt_of_le, arith}
use Rattle.std.proofs.Math.Bool.{and-true}
use Rattle.calendar.specs.declared.TimeWindows.{TimeWindows}
use Rattle.calendar.specs.declared.Calendar.{Calendar}
use Rattle.cells.specs.Laws.Basics.{and_split, and-join, not-both}
use Rattle.calendar.specs.Search.{Found, nothing, at, greatest_of}
use Rattle.cells.specs.Every.{every}
use Rattle.calendar.specs.Spans.{Span, span_at, spans}
use Rattle.calendar.specs.Laws.Spanning.{spans-long, span-at}
use Rattle.calendar.specs.Valid as calendar
use Rattle.calendar.specs.Fits.{fits}
use Rattle.calendar.specs.Work.{working, joint, joint_end, latest, last_change}
use Rattle.calendar.specs.Laws.Searching.{greatest-each, greatest-most}
use Rattle.calendar.specs.Laws.WorkEnds.{joint-changeless, work-end-back}
use Rattle.calendar.specs.Plain.{Quiet}
use Rattle.calendar.specs.Laws.StepsBack.{fits-back, working-back}
use Rattle.calendar.specs.Theorems.Meaning.{joint-end-found}
use Rattle.calendar.specs.Laws.Rules.{filled, windows-right, blocks-right}
use Rattle.timeline.specs.declared.ResourceTimeline.{ResourceTimeline}
use Rattle.timeline.specs.Bookings.{Booking, bookings, latest_end}
use Rattle.timeline.specs.Free.{load, free}
use Rattle.timeline.specs.Earliest.{free_on, fits_at, free_to, starts_at, last_event}
use Rattle.timeline.specs.Steps.{Next, Still}
use Rattle.timeline.specs.Laws.Rules.{DiaryRules}
use Rattle.timeline.specs.Laws.Rows.{none, count, booking-at}
use Rattle.timeline.specs.Laws.Loading.{load-le, Free, free-yes, free-facts}

-- free one later and up to a later end, and no booking ends there: free already
free_back : (cap : ℕ) (bs : List Booking) (u x e e' : ℕ) → e ≤ e' → ((k : ℕ) → k < length bs → (get_or bs k none).end ≡ suc x → ⊥)
    → free cap bs u (suc x) e' ≡ true → free cap bs u x e ≡ true
free_back cap bs u x e e' m f h =
    let g = free-facts cap bs u (suc x) e' h in
    free-yes cap bs u x e
    (record { few = g.few; fits = λ p w. ⊎_elim (λ (q : p ≡ x). rw q (here g)) (λ (i : (x ≤ p) × (p < e)). inside g p i.0 i.1) w })
  where
    here : Free cap bs u (suc x) e' → load bs x e x + u ≤ cap
    here g =
        let a = load-le bs x e x (suc x) e' (suc x)
        (λ k l o.
        let z : (get_or bs k none).end ≡ suc x → ⊥ = f k l in
        record { starts = omega (arith, o.starts); ends = omega (arith, o.ends, z); from = omega (arith, o.from); to = omega (arith, o.to, z) }) in
        let b = g.fits (suc x) (inl refl) in
        omega arith

    inside : Free cap bs u (suc x) e' → (p : ℕ) → x ≤ p → p < e → load bs x e p + u ≤ cap
    inside g p l r =
        ⊎_elim
        (λ (q : x ≡ p). rw (← q) (here g))
        (λ (q : x < p).
        let a = load-le bs x e p (suc x) e' p
        (λ k i o. record { starts = omega (arith, o.starts); ends = omega (arith, o.to); from = o.from; to = o.to }) in
        let b = g.fits p (inr (q, omega arith)) in
        omega arith)
        (eq-or-lt_of_le l)

ends_of : (t : ResourceTimeline) (x : ℕ) → Still t x → (k : ℕ) → k < length (bookings t) → (get_or (bookings t) k none).end ≡ x → ⊥
ends_of t x s k l e =
    let h : k < t.len = rw (count t) at l in
    s.ends k h (sym (ap (λ (b : Booking). b.end) (booking-at t k h)) ∙ e)

-- free on the diary one later and up to a later end: free already, where nothing happens
pub free-on-back : (t : ResourceTimeline) (u x e e' : ℕ) → Still t (suc x) → e ≤ e' → free_on t u (suc x) e' ≡ true → free_on t u x e ≡ true
free-on-back t u x e e' s l h = free_back t.capacity (bookings t) u x e e' l (ends_of t (suc x) s) h

pub fits-at-back : (t : ResourceTimeline) (span u x : ℕ) → Still t (suc x) → fits_at t span u (suc x) ≡ true → fits_at t span u x ≡ true
unfolding fits_at
fits-at-back t span u x s h =
    let w = and_split (fits t.calendar (suc x) (suc x + span)) (free_on t u (suc x) (suc x + span)) h in
    and-join _ _ (fits-back t.calendar x span s.quiet w.0) (free-on-back t u x (x + span) (suc x + span) s (omega arith) w.1)

pub joint-one : (c : Calendar) (p : ℕ) → joint (c ∷ []) p ≡ working c p
unfolding joint every
joint-one c p = and-true (working c p)

pub starts-at-back : (t : ResourceTimeline) (work u x : ℕ) → Still t (suc x) → starts_at t work u (suc x) ≡ true → starts_at t work u x ≡ true
unfolding starts_at free_to
starts-at-back t work u x s h = go (joint_end (t.calendar ∷ []) (suc x) work) refl h
  where
    go : (f : Found) → joint_end (t.calendar ∷ []) (suc x) work ≡ f → free_to t u (suc x) f ≡ true → free_to t u x (joint_end (t.calendar ∷ []) x work) ≡ true
    go nothing e g = absurd (not-both _ g refl)
    go (at d) e g =
        let on = (joint-end-found (t.calendar ∷ []) (suc x) work d e).0 in
        let here = joint-one t.calendar x ∙ working-back t.calendar x s.quiet (sym (joint-one t.calendar (suc x)) ∙ on) in
        let r = work-end-back (last_change (t.calendar ∷ [])) (joint (t.calendar ∷ [])) x work d (joint-changeless (t.calendar ∷ [])) here e in
        rw r.1 (free-on-back t u x r.0 d s r.2 g)

-- between an instant and the next candidate nothing happens
pub next-still : (t : ResourceTimeline) (x r y : ℕ) → Next t x r → x ≤ y → suc y < r → Still t (suc y)
next-still t x r y n a b = record {
  quiet = record {
    windows = λ k l e. omega (arith, n.windows k l (omega arith));
    blocks = λ k l e. omega (arith, n.blocks k l (omega arith));
  };
  ends = λ k l e. omega (arith, n.ends k l (omega arith));
}

-- the latest end of a list of spans is at least that of each, and at most what they all are
end-latest : (l : TimeWindows) (k : ℕ) → k < l.len → get_or l.ends k 0 ≤ latest (spans l)
unfolding latest
end-latest l k h = rw (span-at l k (span_at l 0) h) at (greatest-each (λ (w : Span). w.end) (span_at l 0) (spans l) k (rw (spans-long l 0 l.len) h))

latest-most : (l : TimeWindows) (m : ℕ) → ((k : ℕ) → k < l.len → get_or l.ends k 0 ≤ m) → latest (spans l) ≤ m
unfolding latest
latest-most l m f =
    greatest-most (λ (w : Span). w.end) (span_at l 0) (spans l) m
    (λ k h. let g : k < l.len = rw (spans-long l 0 l.len) at h in rw (span-at l k (span_at l 0) g) (f k g))

-- and so is that of the bookings
booked-end : (t : ResourceTimeline) (k : ℕ) → k < t.len → get_or t.ends k 0 ≤ latest_end (bookings t)
unfolding latest_end
booked-end t k h = rw (booking-at t k h) at (greatest-each (λ (b : Booking). b.end) none (bookings t) k (rw (count t) h))

booked-most : (t : ResourceTimeline) (m : ℕ) → ((k : ℕ) → k < t.len → get_or t.ends k 0 ≤ m) → latest_end (bookings t) ≤ m
unfolding latest_end
booked-most t m f =
    greatest-most (λ (b : Booking). b.end) none (bookings t) m
    (λ k h. let g : k < t.len = rw (count t) at h in rw (booking-at t k g) (f k g))

-- past its last change a calendar is quiet
pub quiet-past : (c : Calendar) → calendar.valid c ≡ true → (y : ℕ) → last_change (c ∷ []) ≤ y → Quiet c (suc y)
unfolding last_change greatest_of
quiet-past c v y h = record {
  windows = λ k l e.
      let f = filled c.windows (windows-right c v) k l in
      omega (arith, end-latest c.windows k l);
  blocks = λ k l e. omega (arith, end-latest c.blocks k l);
}

-- from the last event on nothing happens
pub last-still : (t : ResourceTimeline) → DiaryRules t → (y : ℕ) → last_event t ≤ y → Still t (suc y)
unfolding last_event
last-still t r y h = record {
  quiet = quiet-past t.calendar r.calendar y (omega arith);
  ends = λ k l e. omega (arith, booked-end t k l);
}

pub last-range : (t : ResourceTimeline) → DiaryRules t → last_event t ≤ 2 ^ 42
unfolding last_event last_change greatest_of
last-range t r =
    let a = latest-most t.calendar.windows (2 ^ 42) (λ k l. (filled t.calendar.windows (windows-right _ r.calendar) k l).1) in
    let b = latest-most t.calendar.blocks (2 ^ 42) (λ k l. (filled t.calendar.blocks (blocks-right _ r.calendar) k l).1) in
    let d = booked-most t (2 ^ 42) (λ k l. (r.filled k l).range) in
    omega arith
