-- The least start on one diary and on several, without any bound, and the latest of several least starts, by which the Rust's rounds go: no
-- instant before it suits all, and where it is the instant asked from, that suits all.
use Rattle.std.specs.Prelude.{◌≡◌, refl, Bool, true, false, ◌&&◌, List, [], ◌∷◌, ◌++◌, ◌⊎◌, ℕ, ◌≤◌, ◌<◌, max}
use Rattle.std.proofs.Common.{sym, ap, ◌∙◌, inl, inr, ⊎_elim, arith}
use Rattle.calendar.specs.Limits.{last_instant}
use Rattle.cells.specs.Every.{every, each_end, each_on}
use Rattle.cells.specs.Laws.Basics.{and_split, and-join, no_way, not-both, lt-or-ge}
use Rattle.calendar.specs.Search.{Found, nothing, at, Earliest, Answers}
use Rattle.timeline.specs.Valid.{valid}
use Rattle.timeline.specs.Earliest.{last_event}
use Rattle.timeline.specs.Laws.Rules.{rules_of}
use Rattle.timeline.specs.Laws.Searching.{Sought, found_within}
use Rattle.timeline.specs.Laws.Stepping.{last-still, last-range}
use Rattle.calendar.specs.Laws.Searching.{greatest-most}
use Rattle.timeline.specs.Theorems.Meaning.{fit-means, resumable-means}
use Rattle.scheduler.specs.Alone.{Share, can_start, all_start, last_of}
use Rattle.scheduler.specs.Fitting.{among}
use Rattle.scheduler.specs.Shares.{start_on, no_share}
use Rattle.cells.specs.Laws.Arrays.{each_at}
use Rattle.scheduler.specs.Laws.Together.{Sound, can-back}
use Rattle.scheduler.specs.Instants.{events, events_in, events_of, later, latest_of}
use Rattle.scheduler.specs.Laws.Events.{among-left, among-right, still-else, least-listed}

-- the least start on one diary
pub start-answers : (resumable : Bool) (span : ℕ) (x : Share) (t : ℕ) → valid x.timeline ≡ true → Answers (can_start resumable span x) t (start_on resumable span x t)
unfolding start_on can_start
start-answers true span x t v = resumable-means x.timeline v t span x.units
start-answers false span x t v = fit-means x.timeline v t span x.units

-- a least start lies at the instant asked from, or by 2^42
pub start-range : (resumable : Bool) (span : ℕ) (x : Share) (t s : ℕ) → valid x.timeline ≡ true → Earliest (can_start resumable span x) t s → s ≤ max t last_instant
start-range resumable span x t s v w =
    let r = rules_of x.timeline v in
    let l = found_within (can_start resumable span x) t (last_event x.timeline) (λ y m. can-back resumable span x y (last-still x.timeline r y m)) s w in
    omega (arith, last-range x.timeline r)

-- what the latest of the least starts says
pub record Step (P : ℕ → Bool) (l : List ℕ) (t u : ℕ) : Type 0 where
  pub low : t ≤ u
  pub none : (y : ℕ) → t ≤ y → y < u → P y ≡ false
  pub here : u ≡ t → P t ≡ true
  pub listed : (u ≡ t) ⊎ (among u l ≡ true)

abbrev pub Latest : (ℕ → Bool) → List ℕ → ℕ → Found → Type 0
Latest P l t nothing = (y : ℕ) → t ≤ y → P y ≡ false
Latest P l t (at u) = Step P l t u

pub start-listed : (resumable : Bool) (span : ℕ) (x : Share) (t s : ℕ) → Earliest (can_start resumable span x) t s → (s ≡ t) ⊎ (among s (events x.timeline) ≡ true)
start-listed resumable span x t s w =
    least-listed (can_start resumable span x) (events x.timeline) t s (λ y l e h. can-back resumable span x y (still-else x.timeline y e) h) w

pub latest-says : (resumable : Bool) (span : ℕ) (xs : List Share) (t : ℕ) → Sound xs → Latest (all_start resumable span xs) (events_of xs) t (latest_of resumable span xs t)
unfolding latest_of all_start events_in later every
latest-says resumable span [] t each_end = record { low = omega arith; none = λ y l m. absurd (omega arith); here = λ e. refl; listed = inl refl }
latest-says resumable span (x ∷ xs) t (each_on v s) = go (start_on resumable span x t) (latest_of resumable span xs t) (start-answers resumable span x t v) (latest-says resumable span xs t s)
  where
    Q : ℕ → Bool
    Q = can_start resumable span x

    R : ℕ → Bool
    R = all_start resumable span xs

    no-first : (y : ℕ) → Q y ≡ false → Q y && R y ≡ false
    no-first y e = no_way (Q y && R y) (λ h. not-both (Q y) (and_split (Q y) (R y) h).0 e)

    no-rest : (y : ℕ) → R y ≡ false → Q y && R y ≡ false
    no-rest y e = no_way (Q y && R y) (λ h. not-both (R y) (and_split (Q y) (R y) h).1 e)

    both : (a b : ℕ) → Earliest Q t a → Step R (events_of xs) t b → Step (λ y. Q y && R y) (events x.timeline ++ events_of xs) t (max a b)
    both a b w z = record {
      low = omega (arith, w.low);
      none = λ y l m. ⊎_elim (λ (n : y < a). no-first y (w.first y l n)) (λ (n : a ≤ y). no-rest y (z.none y l (omega arith))) (lt-or-ge y a);
      here = λ e.
          let p : a ≡ t = omega (arith, w.low, z.low) in
          let q : b ≡ t = omega (arith, w.low, z.low) in
          and-join (Q t) (R t) (ap Q (sym p) ∙ w.holds) (z.here q);
      listed = ⊎_elim (λ (n : a < b). let e : max a b ≡ b = omega arith in rw e second) (λ (n : b ≤ a). let e : max a b ≡ a = omega arith in rw e first) (lt-or-ge a b);
    }
      where
        first : (a ≡ t) ⊎ (among a (events x.timeline ++ events_of xs) ≡ true)
        first = ⊎_elim inl (λ (e : among a (events x.timeline) ≡ true). inr (among-left a (events x.timeline) (events_of xs) e)) (start-listed resumable span x t a w)

        second : (b ≡ t) ⊎ (among b (events x.timeline ++ events_of xs) ≡ true)
        second = ⊎_elim inl (λ (e : among b (events_of xs) ≡ true). inr (among-right b (events x.timeline) (events_of xs) e)) z.listed

    go : (f g : Found) → Answers Q t f → Latest R (events_of xs) t g → Latest (λ y. Q y && R y) (events x.timeline ++ events_of xs) t (later f g)
    go nothing g w z = λ y l. no-first y (w y l)
    go (at a) nothing w z = λ y l. no-rest y (z y l)
    go (at a) (at b) w z = both a b w z

-- nothing before t, and nothing from t on up to u, or ever
pub sought-past : (P : ℕ → Bool) (from t u : ℕ) → Sought P from t → t ≤ u → ((y : ℕ) → t ≤ y → y < u → P y ≡ false) → Sought P from u
sought-past P from t u s l f = record { low = omega (arith, s.low); none = λ y a b. ⊎_elim (λ (m : y < t). s.none y a m) (λ (m : t ≤ y). f y m b) (lt-or-ge y t) }

pub sought-never : (P : ℕ → Bool) (from t : ℕ) → Sought P from t → ((y : ℕ) → t ≤ y → P y ≡ false) → (y : ℕ) → from ≤ y → P y ≡ false
sought-never P from t s f y a = ⊎_elim (λ (m : y < t). s.none y a m) (λ (m : t ≤ y). f y m) (lt-or-ge y t)

-- on diaries that keep the rules nothing changes after 2^42
pub last-small : (xs : List Share) → Sound xs → last_of xs ≤ last_instant
unfolding last_of
last-small xs s = greatest-most (λ (x : Share). last_event x.timeline) no_share xs last_instant (λ k l. last-range _ (rules_of _ (each_at (λ x. valid x.timeline ≡ true) no_share xs s k l)))
