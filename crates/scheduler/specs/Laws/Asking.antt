-- Several diaries asked one after another: each from the start that the one before gave, and those in front again where it has moved on.
-- Where all have been asked, that is the least start on all of them.
use Rattle.std.specs.Prelude.{◌≡◌, Bool, List, ◌⊎◌, length, get_or, take, eqb}
use Rattle.std.proofs.Math.Path.{refl}
use Rattle.std.proofs.Common.{ap, ◌∙◌, subst, inl, inr, ⊎_elim, arith, take_all, eqb-true}
use Rattle.std.proofs.Math.Bool.{true, false}
use Prim.Native.Nat.{ℕ, zero, suc, ◌+◌, ◌-◌, ◌*◌, ◌≤◌, ◌<◌}
use Rattle.std.proofs.lemmas.Bool.{eqb-false}
use Rattle.calendar.specs.Limits.{last_asked}
use Rattle.cells.specs.Every.{every}
use Rattle.cells.specs.Laws.Every.{every_in, every-next}
use Rattle.cells.specs.Laws.Basics.{no_way, not-both}
use Rattle.calendar.specs.Search.{Found, nothing, at, Earliest, Answers}
use Rattle.timeline.specs.Valid.{valid}
use Rattle.timeline.specs.Laws.Searching.{Sought, sought-start}
use Rattle.scheduler.specs.Alone.{Share, can_start, all_start, earliest_of}
use Rattle.scheduler.specs.Shares.{start_on, no_share, next_asked}
use Rattle.cells.specs.Laws.Arrays.{each_at}
use Rattle.scheduler.specs.Fitting.{among}
use Rattle.scheduler.specs.Laws.Together.{Sound, together-is}
use Rattle.scheduler.specs.Instants.{events, events_of, above}
use Rattle.scheduler.specs.Laws.Events.{event-among, above-le, above-falls}
use Rattle.scheduler.specs.Laws.Latest.{start-answers, start-listed, start-range, sought-past, sought-never}

pub next-stays : (i : ℕ) → next_asked i true ≡ i + 1
unfolding next_asked
next-stays zero = refl
next-stays (suc i) = refl

pub next-moved : (i : ℕ) → (i ≡ 0 → ⊥) → next_asked i false ≡ 0
unfolding next_asked
next-moved zero n = absurd (n refl)
next-moved (suc i) n = refl

next-few : (i : ℕ) (q : Bool) → next_asked i q ≤ i + 1
unfolding next_asked
next-few zero q = omega arith
next-few (suc i) true = omega arith
next-few (suc i) false = omega arith

module _ (resumable : Bool) (span : ℕ) (xs : List Share) where
  abbrev share : ℕ → Share
  share k = get_or xs k no_share

  -- the k-th can start at y, the first n can, and all can
  abbrev pub can : ℕ → ℕ → Bool
  can k y = can_start resumable span (share k) y

  abbrev pub those : ℕ → ℕ → Bool
  those n y = all_start resumable span (take n xs) y

  abbrev pub all : ℕ → Bool
  all y = all_start resumable span xs y

  -- where one cannot, not all can
  not-all : (k y : ℕ) → k < length xs → can k y ≡ false → all y ≡ false
  unfolding all_start
  not-all k y l e = no_way (all y) (λ h. not-both (can k y) (every_in (λ (x : Share). can_start resumable span x y) xs k no_share l h) e)

  -- what the asking keeps: nothing before t suits all, and t suits the first i
  pub record Asked (from t i : ℕ) : Type 0 where
    pub sought : Sought all from t
    pub fine : those i t ≡ true
    pub most : i ≤ length xs
    pub range : t ≤ last_asked

  pub asked-start : (from : ℕ) → from ≤ last_asked → Asked from from 0
  unfolding all_start every
  asked-start from r = record { sought = sought-start all from; fine = refl; most = omega arith; range = r }

  -- the i-th answers with x
  fine-next : (t i x : ℕ) (q : Bool) → (q ≡ true → x ≡ t) → i < length xs → those i t ≡ true → can i x ≡ true → those (next_asked i q) x ≡ true
  unfolding next_asked all_start every
  fine-next t zero x q same l a c = every-next (λ (y : Share). can_start resumable span y x) no_share xs 0 l refl c
  fine-next t (suc i) x true same l a c = every-next (λ (y : Share). can_start resumable span y x) no_share xs (suc i) l (ap (those (suc i)) (same refl) ∙ a) c
  fine-next t (suc i) x false same l a c = refl

  module _ (from t i : ℕ) (sound : Sound xs) (a : Asked from t i) (l : i < length xs) where
    kept : valid (share i).timeline ≡ true
    kept = each_at (λ x. valid x.timeline ≡ true) no_share xs sound i l

    answers : (f : Found) → start_on resumable span (share i) t ≡ f → Answers (can i) t f
    answers f e = subst (Answers (can i) t) e (start-answers resumable span (share i) t kept)

    pub asked-on : (x : ℕ) → start_on resumable span (share i) t ≡ at x → Asked from x (next_asked i (eqb x t))
    asked-on x e =
        let w : Earliest (can i) t x = answers (at x) e in
        record {
          sought = sought-past all from t x a.sought w.low (λ y b m. not-all i y l (w.first y b m));
          fine = fine-next t i x (eqb x t) (eqb-true x t) l a.fine w.holds;
          most = omega (arith, next-few i (eqb x t));
          range = omega (arith, a.range, start-range resumable span (share i) t x kept w);
        }

    -- and nothing suits all where it answers with nothing
    pub asked-none : start_on resumable span (share i) t ≡ nothing → nothing ≡ earliest_of resumable span xs from
    asked-none e = together-is resumable span xs from nothing sound (sought-never all from t a.sought (λ y b. not-all i y l (answers nothing e y b)))

    -- its answer is the instant asked from, or an event on its diary
    pub asked-listed : (x : ℕ) → start_on resumable span (share i) t ≡ at x → (t ≤ x) × ((x ≡ t) ⊎ (among x (events (share i).timeline) ≡ true))
    asked-listed x e =
        let w : Earliest (can i) t x = answers (at x) e in
        (w.low, start-listed resumable span (share i) t x w)

  -- with all asked, t is the least start
  pub asked-all : (from t i : ℕ) → Sound xs → Asked from t i → length xs ≤ i → at t ≡ earliest_of resumable span xs from
  asked-all from t i sound a l =
      let z = take_all i xs l in
      together-is resumable span xs from (at t) sound (record { low = a.sought.low; holds = rw z at a.fine; first = a.sought.none })

-- a diary more is asked, or the start has moved on to a listed instant and fewer are left after it
pub asked-less : (l : List ℕ) (n before t i x : ℕ) → n < 32 → i < n → before ≤ t → t ≤ x → (x ≡ t) ⊎ (among x l ≡ true)
    → above l x * 32 + (n - next_asked i (eqb x t)) < above l before * 32 + (n - i)
asked-less l n before t i x few m low on listed = go (eqb x t) refl
  where
    go : (q : Bool) → eqb x t ≡ q → above l x * 32 + (n - next_asked i q) < above l before * 32 + (n - i)
    go true e = omega (arith, above-le l before x (omega arith), next-stays i)
    go false e =
        let ne = eqb-false x t e in
        omega (arith, above-falls l t x (omega (arith, ne)) (⊎_elim (λ (z : x ≡ t). absurd (ne z)) (λ (z : among x l ≡ true). z) listed), above-le l before t low)

-- an event on the i-th diary is one of all
pub share-event : (xs : List Share) (i x : ℕ) → among x (events (get_or xs i no_share).timeline) ≡ true → among x (events_of xs) ≡ true
unfolding events
share-event xs i x e = event-among (λ y. y.timeline) no_share refl xs i x e

pub listed-among : (xs : List Share) (i t x : ℕ) → (x ≡ t) ⊎ (among x (events (get_or xs i no_share).timeline) ≡ true) → (x ≡ t) ⊎ (among x (events_of xs) ≡ true)
listed-among xs i t x = ⊎_elim inl (λ (e : among x (events (get_or xs i no_share).timeline) ≡ true). inr (share-event xs i x e))
