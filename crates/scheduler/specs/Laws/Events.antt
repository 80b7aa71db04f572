-- The instants at which something can first start, as lists: what is among them, and how many are left after one.
use Rattle.std.specs.Prelude.{◌≡◌, refl, Bool, true, false, ◌||◌, cond, List, [], ◌∷◌, ◌++◌, map, ◌⊎◌, ℕ, zero, suc, ◌+◌, ◌≤◌, ◌<◌, get_or, length, take, ltb, eqb}
use Rattle.std.proofs.Common.{sym, ◌∙◌, inl, inr, ⊎_elim, arith, eqb-true, ltb-true, ltb-false}
use Rattle.std.proofs.lemmas.Bool.{eqb-false}
use Rattle.cells.specs.Laws.Basics.{not-both, lt-or-ge, or_left, or_right, or-in-left, or-in-right, or_cases}
use Rattle.timeline.specs.declared.ResourceTimeline.{ResourceTimeline}
use Rattle.timeline.specs.Steps.{Still}
use Rattle.calendar.specs.Search.{Earliest}
use Rattle.scheduler.specs.Alone.{Share}
use Rattle.scheduler.specs.Fitting.{among}
use Rattle.cells.specs.Every.{each_end, each_on}
use Rattle.scheduler.specs.Laws.Together.{Calm}
use Rattle.scheduler.specs.Instants.{events, events_in, events_of, above}

pub among-append : (n : ℕ) (xs ys : List ℕ) → among n (xs ++ ys) ≡ among n xs || among n ys
unfolding among
among-append n [] ys = refl
among-append n (x ∷ xs) ys = go (eqb x n) (among-append n xs ys)
  where
    go : (p : Bool) → among n (xs ++ ys) ≡ among n xs || among n ys → p || among n (xs ++ ys) ≡ (p || among n xs) || among n ys
    go true e = refl
    go false e = e

pub among-left : (n : ℕ) (xs ys : List ℕ) → among n xs ≡ true → among n (xs ++ ys) ≡ true
among-left n xs ys e = among-append n xs ys ∙ or-in-left (among n xs) (among n ys) e

pub among-right : (n : ℕ) (xs ys : List ℕ) → among n ys ≡ true → among n (xs ++ ys) ≡ true
among-right n xs ys e = among-append n xs ys ∙ or-in-right (among n xs) (among n ys) e

pub among_cases : (n : ℕ) (xs ys : List ℕ) → among n (xs ++ ys) ≡ true → (among n xs ≡ true) ⊎ (among n ys ≡ true)
among_cases n xs ys e = or_cases (among n xs) (among n ys) (sym (among-append n xs ys) ∙ e)

-- an event on one of them is one of all
pub event-among : {A : Type 0} (f : A → ResourceTimeline) (d : A) → events (f d) ≡ [] → (xs : List A) (i x : ℕ)
    → among x (events (f (get_or xs i d))) ≡ true → among x (events_in (map f xs)) ≡ true
unfolding events_in among
event-among f d z [] i x e = absurd (not-both true refl (sym (rw z at e)))
event-among f d z (y ∷ ys) zero x e = among-left x (events (f y)) (events_in (map f ys)) e
event-among f d z (y ∷ ys) (suc i) x e = among-right x (events (f y)) (events_in (map f ys)) (event-among f d z ys i x e)

among-get : (y n : ℕ) (xs : List ℕ) (k : ℕ) → among (suc y) (take n xs) ≡ false → k < n → get_or xs k 0 ≡ suc y → ⊥
unfolding among
among-get y n [] k e l h = let z : 0 ≡ suc y = h in omega arith
among-get y zero (x ∷ xs) k e l h = omega arith
among-get y (suc n) (x ∷ xs) zero e l h = eqb-false x (suc y) (or_left (eqb x (suc y)) (among (suc y) (take n xs)) e) h
among-get y (suc n) (x ∷ xs) (suc k) e l h = among-get y n xs k (or_right (eqb x (suc y)) (among (suc y) (take n xs)) e) (omega arith) h

-- nothing happens at an instant that is none of them
pub still-else : (t : ResourceTimeline) (y : ℕ) → among (suc y) (events t) ≡ false → Still t (suc y)
unfolding events
still-else t y e =
    let A = take t.calendar.windows.len t.calendar.windows.starts in
    let B = take t.calendar.blocks.len t.calendar.blocks.ends in
    let C = take t.len t.ends in
    let p = sym (among-append (suc y) A (B ++ C)) ∙ e in
    let a = or_left (among (suc y) A) (among (suc y) (B ++ C)) p in
    let q = sym (among-append (suc y) B C) ∙ or_right (among (suc y) A) (among (suc y) (B ++ C)) p in
    record {
      quiet = record {
        windows = λ k l h. among-get y t.calendar.windows.len t.calendar.windows.starts k a l h;
        blocks = λ k l h. among-get y t.calendar.blocks.len t.calendar.blocks.ends k (or_left (among (suc y) B) (among (suc y) C) q) l h;
      };
      ends = λ k l h. among-get y t.len t.ends k (or_right (among (suc y) B) (among (suc y) C) q) l h;
    }

pub calm-else : (xs : List Share) (y : ℕ) → among (suc y) (events_of xs) ≡ false → Calm (suc y) xs
unfolding events_in
calm-else [] y e = each_end
calm-else (x ∷ xs) y e =
    let p = sym (among-append (suc y) (events x.timeline) (events_of xs)) ∙ e in
    each_on (still-else x.timeline y (or_left (among (suc y) (events x.timeline)) (among (suc y) (events_of xs)) p)) (calm-else xs y (or_right (among (suc y) (events x.timeline)) (among (suc y) (events_of xs)) p))

-- a least instant is the one asked from, or a listed one, where the test holds one earlier too unless one is listed
pub least-listed : (P : ℕ → Bool) (l : List ℕ) (t s : ℕ) → ((y : ℕ) → t ≤ y → among (suc y) l ≡ false → P (suc y) ≡ true → P y ≡ true)
    → Earliest P t s → (s ≡ t) ⊎ (among s l ≡ true)
least-listed P l t zero back w = inl (omega (arith, w.low))
least-listed P l t (suc y) back w = ⊎_elim (λ (h : t < suc y). inr (go (among (suc y) l) refl (omega arith))) (λ (h : suc y ≤ t). inl (omega (arith, w.low))) (lt-or-ge t (suc y))
  where
    go : (q : Bool) → among (suc y) l ≡ q → t ≤ y → q ≡ true
    go true e h = refl
    go false e h = absurd (not-both (P y) (back y h e w.holds) (w.first y h (omega arith)))

pub above-length : (l : List ℕ) (t : ℕ) → above l t ≤ length l
unfolding above
above-length [] t = omega arith
above-length (x ∷ l) t = go (ltb t x) (above-length l t)
  where
    go : (q : Bool) → above l t ≤ length l → cond q 1 0 + above l t ≤ suc (length l)
    go true h = omega arith
    go false h = omega arith

pub above-le : (l : List ℕ) (t s : ℕ) → t ≤ s → above l s ≤ above l t
unfolding above
above-le [] t s h = omega arith
above-le (x ∷ l) t s h = go (ltb s x) (ltb t x) refl refl (above-le l t s h)
  where
    go : (p q : Bool) → ltb s x ≡ p → ltb t x ≡ q → above l s ≤ above l t → cond p 1 0 + above l s ≤ cond q 1 0 + above l t
    go true true e f r = omega arith
    go true false e f r = absurd (omega (arith, ltb-true s x e, ltb-false t x f))
    go false true e f r = omega arith
    go false false e f r = omega arith

-- a step to a listed instant leaves fewer
pub above-falls : (l : List ℕ) (t s : ℕ) → t < s → among s l ≡ true → above l s < above l t
unfolding above among
above-falls [] t s h e = absurd (not-both true refl (sym e))
above-falls (x ∷ l) t s h e = go (eqb x s) refl (ltb s x) (ltb t x) refl refl e (above-falls l t s h) (above-le l t s (omega arith))
  where
    go : (k : Bool) → eqb x s ≡ k → (p q : Bool) → ltb s x ≡ p → ltb t x ≡ q → k || among s l ≡ true → (among s l ≡ true → above l s < above l t)
        → above l s ≤ above l t → cond p 1 0 + above l s < cond q 1 0 + above l t
    go true k true q e f g r m = absurd (omega (arith, ltb-true s x e, eqb-true x s k))
    go true k false true e f g r m = omega arith
    go true k false false e f g r m = absurd (omega (arith, ltb-false t x f, eqb-true x s k))
    go false k true true e f g r m = omega (arith, r g)
    go false k true false e f g r m = absurd (omega (arith, ltb-true s x e, ltb-false t x f))
    go false k false true e f g r m = omega (arith, r g)
    go false k false false e f g r m = omega (arith, r g)
