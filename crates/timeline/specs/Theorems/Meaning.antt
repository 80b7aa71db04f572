-- What the definitions of a diary amount to: the least start without any bound, work without a calendar, and extra bookings.
use Rattle.std.specs.Prelude.{◌≡◌, refl, Bool, true, false, cond, List, [], ◌∷◌, ℕ, suc, ◌+◌, ◌-◌, ◌≤◌, max}
use Rattle.std.proofs.Common.{ap, ◌∙◌, inl, arith, eqb-true, eq-eqb}
use Rattle.std.proofs.Math.Path.{fun_ext}
use Rattle.calendar.specs.declared.Calendar.{Calendar}
use Rattle.cells.specs.Laws.Basics.{and_split, no_way, not-both}
use Rattle.calendar.specs.Search.{at, least_from, greatest_of, Answers}
use Rattle.calendar.specs.Work.{joint, work_end, last_change, joint_end}
use Rattle.calendar.specs.Laws.Searching.{least-answers}
use Rattle.calendar.specs.Theorems.Meaning.{fits-is, working-is}
use Rattle.calendar.specs.Laws.Running.{run-done}
use Rattle.timeline.specs.declared.ResourceTimeline.{ResourceTimeline}
use Rattle.timeline.specs.Bookings.{Booking, booking, latest_end, same, times, Within}
use Rattle.timeline.specs.Valid.{valid}
use Rattle.timeline.specs.Free.{on_at, tally, load, free}
use Rattle.timeline.specs.Earliest.{fits_at, free_to, starts_at, last_event, earliest_fit, earliest_resumable}
use Rattle.timeline.specs.Laws.Rules.{rules_of}
use Rattle.timeline.specs.Laws.Loading.{free-facts, free-yes}
use Rattle.timeline.specs.Laws.Stepping.{fits-at-back, starts-at-back, last-still, joint-one}

module _ (t : ResourceTimeline) (v : valid t ≡ true) (from span u : ℕ) where
  -- `earliest_fit` answers with the least start at which the span fits, and with nothing only if it fits at no instant from `from` on
  pub fit-means : Answers (fits_at t span u) from (earliest_fit t from span u)
  unfolding earliest_fit
  fit-means = least-answers (fits_at t span u) from (last_event t) (λ y l. fits-at-back t span u y (last-still t (rules_of t v) y l))

  -- and `earliest_resumable` likewise with the least start at which the work can start
  pub resumable-means : Answers (starts_at t span u) from (earliest_resumable t from span u)
  unfolding earliest_resumable
  resumable-means = least-answers (starts_at t span u) from (last_event t) (λ y l. starts-at-back t span u y (last-still t (rules_of t v) y l))

-- without a calendar work runs straight through ..
pub straight : (c : Calendar) (s w : ℕ) → c.windows.len ≡ 0 → c.blocks.len ≡ 0 → joint_end (c ∷ []) s w ≡ at (s + w)
unfolding work_end
straight c s w a b =
    rw (work_end, all s) (run-done (joint (c ∷ [])) s w (last_change (c ∷ []) - s + w) (omega arith) (λ q h l. all q))
  where
    all : (p : ℕ) → joint (c ∷ []) p ≡ true
    all p = joint-one c p ∙ working-is c p (record { window = inl a; blocks = λ k l. absurd (omega arith) })

starts-fits : (t : ResourceTimeline) (work u s : ℕ) → t.calendar.windows.len ≡ 0 → t.calendar.blocks.len ≡ 0 → starts_at t work u s ≡ fits_at t work u s
unfolding starts_at free_to fits_at
starts-fits t work u s a b =
    rw (straight t.calendar s work a b, fits-is t.calendar s (s + work) (record { window = inl a; blocks = λ k l. absurd (omega arith) })) refl

-- .. and `earliest_resumable` is the same as `earliest_fit`
pub no-calendar : (t : ResourceTimeline) (from work u : ℕ) → t.calendar.windows.len ≡ 0 → t.calendar.blocks.len ≡ 0
    → earliest_resumable t from work u ≡ earliest_fit t from work u
unfolding earliest_resumable earliest_fit
no-calendar t from work u a b = ap (λ (P : ℕ → Bool). least_from P from (suc (last_event t - from))) (fun_ext (λ s. starts-fits t work u s a b))

-- bookings counted with repeats
same-is : (a b : Booking) → same a b ≡ true → a ≡ b
unfolding same
same-is a b h =
    let w = and_split _ _ h in
    let v = and_split _ _ w.1 in
    let x : a.start ≡ b.start = eqb-true _ _ w.0 in
    let y : a.end ≡ b.end = eqb-true _ _ v.0 in
    let z : a.units ≡ b.units = eqb-true _ _ v.1 in
    λ i. booking (x i) (y i) (z i)

remove : Booking → List Booking → List Booking
remove b [] = []
remove b (x ∷ xs) = cond (same b x) xs (x ∷ remove b xs)

times-remove : (b c : Booking) (xs : List Booking) → times c xs ≤ times c (remove b xs) + cond (same c b) 1 0
unfolding times remove
times-remove b c [] = omega arith
times-remove b c (x ∷ xs) = go (same b x) refl (times-remove b c xs)
  where
    go : (q : Bool) → same b x ≡ q → times c xs ≤ times c (remove b xs) + cond (same c b) 1 0
        → cond (same c x) 1 0 + times c xs ≤ times c (cond q xs (x ∷ remove b xs)) + cond (same c b) 1 0
    go true e h = rw (same-is b x e) (omega arith)
    go false e h = omega arith

load-remove : (b : Booking) (xs : List Booking) (s e p : ℕ) → 1 ≤ times b xs → load xs s e p ≡ cond (on_at b s e p) b.units 0 + load (remove b xs) s e p
unfolding times remove load tally
load-remove b [] s e p h = absurd (omega arith)
load-remove b (x ∷ xs) s e p h = go (same b x) refl (load-remove b xs s e p) h
  where
    go : (q : Bool) → same b x ≡ q → (1 ≤ times b xs → load xs s e p ≡ cond (on_at b s e p) b.units 0 + load (remove b xs) s e p)
        → 1 ≤ cond q 1 0 + times b xs
        → cond (on_at x s e p) x.units 0 + load xs s e p ≡ cond (on_at b s e p) b.units 0 + load (cond q xs (x ∷ remove b xs)) s e p
    go true g f h = rw (same-is b x g) refl
    go false g f h = omega (arith, f (omega arith))

same_self : (b : Booking) → same b b ≡ true
unfolding same
same_self b = simp (eq-eqb b.start b.start refl, eq-eqb b.end b.end refl, eq-eqb b.units b.units refl)

load-more : (bs cs : List Booking) (s e p : ℕ) → Within bs cs → load bs s e p ≤ load cs s e p
unfolding load tally times
load-more [] cs s e p f = omega arith
load-more (b ∷ bs) cs s e p f =
    let one : 1 ≤ times b cs = omega (arith, rw (same_self b) at (f b)) in
    omega (arith, load-remove b cs s e p one, load-more bs (remove b cs) s e p (λ c. omega (arith, f c, times-remove b c cs)))

-- more bookings end no sooner
end-among : (b : Booking) (xs : List Booking) → 1 ≤ times b xs → b.end ≤ latest_end xs
unfolding times latest_end greatest_of
end-among b [] h = absurd (omega arith)
end-among b (x ∷ xs) h = go (same b x) refl (end-among b xs) h
  where
    go : (q : Bool) → same b x ≡ q → (1 ≤ times b xs → b.end ≤ latest_end xs) → 1 ≤ cond q 1 0 + times b xs → b.end ≤ max x.end (latest_end xs)
    go true e f g = rw (same-is b x e) (omega arith)
    go false e f g = omega (arith, f (omega arith))

pub latest-more : (bs cs : List Booking) → Within bs cs → latest_end bs ≤ latest_end cs
unfolding latest_end times greatest_of
latest-more [] cs f = omega arith
latest-more (b ∷ bs) cs f =
    let one : 1 ≤ times b cs = omega (arith, rw (same_self b) at (f b)) in
    omega (arith, end-among b cs one, latest-more bs cs (λ c. omega (arith, f c)))

-- more bookings free nothing ..
pub free_more : (cap : ℕ) (bs cs : List Booking) (u s e : ℕ) → Within bs cs → free cap cs u s e ≡ true → free cap bs u s e ≡ true
free_more cap bs cs u s e f h =
    let g = free-facts cap cs u s e h in
    free-yes cap bs u s e (record { few = g.few; fits = λ p w. omega (arith, g.fits p w, load-more bs cs s e p f) })

-- .. and what is free depends on the bookings counted with repeats, never on their order
pub free-same : (cap : ℕ) (bs cs : List Booking) (u s e : ℕ) → Within bs cs → Within cs bs → free cap bs u s e ≡ free cap cs u s e
free-same cap bs cs u s e f g = go (free cap cs u s e) refl
  where
    go : (b : Bool) → free cap cs u s e ≡ b → free cap bs u s e ≡ b
    go true h = free_more cap bs cs u s e f h
    go false h = no_way _ (λ t. not-both _ (free_more cap cs bs u s e g t) h)
