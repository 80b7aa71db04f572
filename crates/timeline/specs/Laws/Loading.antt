-- The load of a span: how it adds up, that it is greatest at the span's start or at a booking's, and 'free' as facts.
use Rattle.std.specs.Prelude.{◌≡◌, refl, Bool, true, false, ◌&&◌, cond, List, [], ◌∷◌, ◌⊎◌, ℕ, zero, suc, ◌+◌, ◌-◌, ◌≤◌, ◌<◌, max, get_or, length, leb, ltb}
use Rattle.std.proofs.Common.{inl, inr, ⊎_elim, arith, le_antisymm, leb-true, ltb-true, le-leb, lt-ltb}
use Rattle.cells.specs.Laws.Basics.{and_split, no_way, not-both, lt-or-ge}
use Rattle.cells.specs.Laws.Every.{from_at, from_all}
use Rattle.timeline.specs.Bookings.{Booking}
use Rattle.timeline.specs.Free.{overlaps, on_at, tally, load, room_at, free}
use Rattle.timeline.specs.Steps.{overlapping}
use Rattle.timeline.specs.Laws.Rows.{none}

-- what the test says, and what it asks
pub record On (a z s e p : ℕ) : Type 0 where
  pub starts : a < e
  pub ends : s < z
  pub from : a ≤ p
  pub to : p < z

pub on : (b : Booking) (s e p : ℕ) → on_at b s e p ≡ true → On b.start b.end s e p
unfolding on_at overlaps
on b s e p h =
    let h1 = and_split (overlaps b s e) (leb b.start p && ltb p b.end) h in
    let h2 = and_split (ltb b.start e) (ltb s b.end) h1.0 in
    let h3 = and_split (leb b.start p) (ltb p b.end) h1.1 in
    record { starts = ltb-true _ _ h2.0; ends = ltb-true _ _ h2.1; from = leb-true _ _ h3.0; to = ltb-true _ _ h3.1 }

pub is-on : (b : Booking) (s e p : ℕ) → On b.start b.end s e p → on_at b s e p ≡ true
unfolding on_at overlaps
is-on b s e p f = simp (lt-ltb _ _ f.starts, lt-ltb _ _ f.ends, le-leb _ _ f.from, lt-ltb _ _ f.to)

cond-le : (x y : Bool) (u : ℕ) → (x ≡ true → y ≡ true) → cond x u 0 ≤ cond y u 0
cond-le true y u f = rw (f refl) (omega arith)
cond-le false y u f = omega arith

-- a test that picks all that another picks
tally-le : (P Q : Booking → Bool) (bs : List Booking) → ((k : ℕ) → k < length bs → P (get_or bs k none) ≡ true → Q (get_or bs k none) ≡ true) → tally P bs ≤ tally Q bs
unfolding tally
tally-le P Q [] f = omega arith
tally-le P Q (b ∷ bs) f = omega (arith, cond-le (P b) (Q b) b.units (f 0 (omega arith)), tally-le P Q bs (λ k l. f (suc k) (omega arith)))

pub load-le : (bs : List Booking) (s e p s' e' q : ℕ)
    → ((k : ℕ) → k < length bs → On (get_or bs k none).start (get_or bs k none).end s e p → On (get_or bs k none).start (get_or bs k none).end s' e' q)
    → load bs s e p ≤ load bs s' e' q
unfolding load
load-le bs s e p s' e' q f = tally-le (λ b. on_at b s e p) (λ b. on_at b s' e' q) bs (λ k l h. is-on (get_or bs k none) s' e' q (f k l (on (get_or bs k none) s e p h)))

-- the latest booking start up to p, and s where there is none after it
last_start : List Booking → ℕ → ℕ → ℕ
last_start [] s p = s
last_start (b ∷ bs) s p = cond (leb b.start p) (max b.start (last_start bs s p)) (last_start bs s p)

last-from : (bs : List Booking) (s p : ℕ) → s ≤ last_start bs s p
unfolding last_start
last-from [] s p = omega arith
last-from (b ∷ bs) s p = go (leb b.start p) (last-from bs s p)
  where
    go : (q : Bool) → s ≤ last_start bs s p → s ≤ cond q (max b.start (last_start bs s p)) (last_start bs s p)
    go true h = omega arith
    go false h = h

last-to : (bs : List Booking) (s p : ℕ) → s ≤ p → last_start bs s p ≤ p
unfolding last_start
last-to [] s p h = h
last-to (b ∷ bs) s p h = go (leb b.start p) refl (last-to bs s p h)
  where
    go : (q : Bool) → leb b.start p ≡ q → last_start bs s p ≤ p → cond q (max b.start (last_start bs s p)) (last_start bs s p) ≤ p
    go true e l = omega (arith, leb-true b.start p e)
    go false e l = l

last-max : (bs : List Booking) (s p k : ℕ) → k < length bs → (get_or bs k none).start ≤ p → (get_or bs k none).start ≤ last_start bs s p
unfolding last_start
last-max [] s p k l h = absurd (omega arith)
last-max (b ∷ bs) s p zero l h = rw (le-leb b.start p h) (omega arith)
last-max (b ∷ bs) s p (suc k) l h = go (leb b.start p) (last-max bs s p k (omega arith) h)
  where
    go : (q : Bool) → (get_or bs k none).start ≤ last_start bs s p → (get_or bs k none).start ≤ cond q (max b.start (last_start bs s p)) (last_start bs s p)
    go true x = omega arith
    go false x = x

-- what holds at s and at every booking start above s, up to p, holds at the last start
last-is : (P : ℕ → Type 0) (bs : List Booking) (s p : ℕ) → P s
    → ((k : ℕ) → k < length bs → s < (get_or bs k none).start → (get_or bs k none).start ≤ p → P (get_or bs k none).start)
    → P (last_start bs s p)
unfolding last_start
last-is P [] s p h f = h
last-is P (b ∷ bs) s p h f = go (leb b.start p) refl (last-is P bs s p h (λ k l. f (suc k) (omega arith))) (last-from bs s p)
  where
    go : (q : Bool) → leb b.start p ≡ q → P (last_start bs s p) → s ≤ last_start bs s p → P (cond q (max b.start (last_start bs s p)) (last_start bs s p))
    go true e x y =
        ⊎_elim
        (λ (l : last_start bs s p < b.start).
        let m : max b.start (last_start bs s p) ≡ b.start = omega arith in
        rw m (f 0 (omega arith) (omega arith) (leb-true _ _ e)))
        (λ (l : b.start ≤ last_start bs s p).
        let m : max b.start (last_start bs s p) ≡ last_start bs s p = omega arith in
        rw m x)
        (lt-or-ge (last_start bs s p) b.start)
    go false e x y = x

-- at s, and at every instant of the span
abbrev pub During : ℕ → ℕ → ℕ → Type 0
During s e p = (p ≡ s) ⊎ ((s ≤ p) × (p < e))

pub record Free (cap : ℕ) (bs : List Booking) (u s e : ℕ) : Type 0 where
  pub few : u ≤ cap
  pub fits : (p : ℕ) → During s e p → load bs s e p + u ≤ cap

-- the load leaves room at every instant if it does at s and at the booking starts inside the span
pub every-instant : (cap : ℕ) (bs : List Booking) (u s e : ℕ) → u ≤ cap → load bs s e s + u ≤ cap
    → ((k : ℕ) → k < length bs → s < (get_or bs k none).start → (get_or bs k none).start < e → load bs s e (get_or bs k none).start + u ≤ cap)
    → Free cap bs u s e
every-instant cap bs u s e few at0 f = record {
  few = few;
  fits = λ p w. ⊎_elim (λ (q : p ≡ s). rw q at0) (λ (h : (s ≤ p) × (p < e)). inside p h.0 h.1) w;
}
  where
    inside : (p : ℕ) → s ≤ p → p < e → load bs s e p + u ≤ cap
    inside p a z =
        let x = last-is (λ q. load bs s e q + u ≤ cap) bs s p at0 (λ k l g h. f k l g (omega arith)) in
        let y = load-le bs s e p s e (last_start bs s p)
        (λ k l o. record { starts = o.starts; ends = o.ends; from = last-max bs s p k l o.from; to = omega (arith, last-to bs s p a, o.to) }) in
        omega arith

pub free-yes : (cap : ℕ) (bs : List Booking) (u s e : ℕ) → Free cap bs u s e → free cap bs u s e ≡ true
unfolding free
free-yes cap bs u s e f =
    let x = from_all (room_at cap bs u s e) s (e - s) (λ q h l. le-leb _ _ (f.fits q (inr (h, omega arith)))) in
    simp (le-leb _ _ f.few, le-leb _ _ (f.fits s (inl refl)), x)

pub free-facts : (cap : ℕ) (bs : List Booking) (u s e : ℕ) → free cap bs u s e ≡ true → Free cap bs u s e
unfolding free
free-facts cap bs u s e h =
    let w = and_split _ _ h in
    let v = and_split _ _ w.1 in
    record {
      few = leb-true _ _ w.0;
      fits = λ p i.
          ⊎_elim
          (λ (q : p ≡ s). rw q (leb-true _ _ v.0))
          (λ (q : (s ≤ p) × (p < e)). leb-true _ _ (from_at (room_at cap bs u s e) s (e - s) v.1 p q.0 (omega arith)))
          i;
    }

-- one instant at which the units do not fit
pub free-no : (cap : ℕ) (bs : List Booking) (u s e p : ℕ) → During s e p → cap < load bs s e p + u → free cap bs u s e ≡ false
free-no cap bs u s e p w h = no_way _ (λ t. let x = (free-facts cap bs u s e t).fits p w in absurd (omega arith))

pub free-few : (cap : ℕ) (bs : List Booking) (u s e : ℕ) → cap < u → free cap bs u s e ≡ false
free-few cap bs u s e h = no_way _ (λ t. let x = (free-facts cap bs u s e t).few in absurd (omega arith))

-- u units within the capacity are nothing more within what the capacity leaves
pub free-room : (cap : ℕ) (bs : List Booking) (u s e room : ℕ) → u + room ≡ cap → free room bs 0 s e ≡ free cap bs u s e
free-room cap bs u s e room q = go (free cap bs u s e) refl
  where
    go : (b : Bool) → free cap bs u s e ≡ b → free room bs 0 s e ≡ b
    go true h = let g = free-facts cap bs u s e h in free-yes room bs 0 s e (record { few = omega arith; fits = λ p w. omega (arith, g.fits p w) })
    go false h = no_way _ (λ t. let g = free-facts room bs 0 s e t in not-both _ (free-yes cap bs u s e (record { few = omega arith; fits = λ p w. omega (arith, g.fits p w) })) h)

-- few enough overlap at all
pub free-over : (cap : ℕ) (bs : List Booking) (u s e room : ℕ) → u + room ≡ cap → overlapping bs s e ≤ room → free cap bs u s e ≡ true
unfolding load overlapping on_at
free-over cap bs u s e room q h =
    free-yes cap bs u s e
    (record {
      few = omega arith;
      fits = λ p w. omega (arith, tally-le (λ b. on_at b s e p) (λ b. overlaps b s e) bs (λ k l t. (and_split (overlaps (get_or bs k none) s e) _ t).0));
    })

-- the load at an instant: what overlaps the millisecond from it on, up to the span's end
pub load-over : (bs : List Booking) (s e p z : ℕ) → s ≤ p → z ≤ e → z ≤ p + 1 → e ≤ z ⊎ p + 1 ≤ z → overlapping bs p z ≡ load bs s e p
unfolding load overlapping overlaps on_at
load-over bs s e p z h k l m = le_antisymm
    (tally-le _ _ bs (λ i j t. let g = and_split (ltb (get_or bs i none).start z) _ t in
    let a = ltb-true _ _ g.0 in
    let b = ltb-true _ _ g.1 in
    is-on (get_or bs i none) s e p (record { starts = omega arith; ends = omega arith; from = omega arith; to = b })))
    (tally-le _ _ bs (λ i j t. let f = on (get_or bs i none) s e p t in
    let a : (get_or bs i none).start < z = ⊎_elim (λ (q : e ≤ z). omega (arith, f.starts)) (λ (q : p + 1 ≤ z). omega (arith, f.from)) m in
    simp (lt-ltb _ _ a, lt-ltb _ _ f.to)))
