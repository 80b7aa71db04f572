-- The candidates of a diary tried in rising order: where each before one fails a test, so does each instant before it.
use mathlib.Core.Path.{◌≡◌, refl}
use mathlib.Core.Bool.{Bool, true, false}
use mathlib.Core.List.{List}
use mathlib.Core.Logic.{⊎_elim}
use Prim.Native.Nat.{ℕ, zero, suc, ◌+◌, ◌-◌, ◌≤◌, ◌<◌}
use native.Mathlib.Omega.{arith}
use lib.ListN.{get_or}
use Rattle.calendar.specs.Limits.{last_instant, last_asked, never}
use Rattle.calendar.specs.Laws.Rules.{windows-right, blocks-right, filled}
use Rattle.timeline.specs.declared.ResourceTimeline.{ResourceTimeline}
use Rattle.timeline.specs.Valid.{valid}
use Rattle.timeline.specs.Steps.{Next, Still}
use Rattle.timeline_candidates.specs.Steps.{Listed, Event, StartCandidates}
use Rattle.timeline.specs.Laws.Rules.{DiaryRules, rules_of}
use Rattle.timeline.specs.Laws.Searching.{Sought, sought-start, sought-on}
use Rattle.timeline_candidates.proofs.Listing.{first-is, next-listed, next-none}
use Rattle.timeline.specs.Laws.Stepping.{next-still}

event-range : (t : ResourceTimeline) → DiaryRules t → (y : ℕ) → Event t y → y ≤ last_instant
event-range t r y e =
    ⊎_elim
    (λ (w : Listed t.calendar.windows.starts t.calendar.windows.len y).
    let f = filled t.calendar.windows (windows-right t.calendar r.calendar) w.0 w.1 in
    omega (arith, w.2))
    (⊎_elim
    (λ (w : Listed t.calendar.blocks.ends t.calendar.blocks.len y).
    let f = filled t.calendar.blocks (blocks-right t.calendar r.calendar) w.0 w.1 in
    omega (arith, w.2))
    (λ (w : Listed t.ends t.len y). omega (arith, (r.filled w.0 w.1).range, w.2)))
    e

module _ (t : ResourceTimeline) (v : valid t ≡ true) (from : ℕ) (ws xs : List ℕ) (n : ℕ) (c : StartCandidates t from ws xs n) (a : from ≤ last_asked) where
  pub candidate-range : (i : ℕ) → i < n → get_or xs i 0 ≤ last_asked
  candidate-range i l =
      ⊎_elim
      (λ (e : get_or xs i 0 ≡ from). omega arith)
      (λ (w : (from < get_or xs i 0) × Event t (get_or xs i 0)). omega (arith, event-range t (rules_of t v) (get_or xs i 0) w.1))
      (c.only (get_or xs i 0) (i, l, refl))

  -- where each candidate before the i-th fails, so does each instant before it
  module _ (P : ℕ → Bool) (back : (y : ℕ) → Still t (suc y) → P (suc y) ≡ true → P y ≡ true) where
    pub passed : (i : ℕ) → i < n → ((k : ℕ) → k < i → P (get_or xs k 0) ≡ false) → Sought P from (get_or xs i 0)
    passed zero l f = rw (first-is t from ws xs n c).1 (sought-start P from)
    passed (suc i) l f =
        let e : i + 1 ≡ suc i = omega arith in
        let s : Next t (get_or xs i 0) (get_or xs (suc i) 0) = rw e at (next-listed t from ws xs n c i (omega arith) (omega (arith, candidate-range (i + 1) (omega arith)))) in
        sought-on P from (get_or xs i 0) (get_or xs (suc i) 0) (passed i (omega arith) (λ k h. f k (omega arith))) (f i (omega arith)) s.above
        (λ y b d. back y (next-still t (get_or xs i 0) (get_or xs (suc i) 0) y s b d))

    pub all-passed : ((k : ℕ) → k < n → P (get_or xs k 0) ≡ false) → Sought P from never
    all-passed f =
        let z = (first-is t from ws xs n c).0 in
        let s = next-none t from ws xs n c (n - 1) (omega arith) (omega (arith, candidate-range (n - 1) (omega arith))) in
        sought-on P from (get_or xs (n - 1) 0) never (passed (n - 1) (omega arith) (λ k h. f k (omega arith))) (f (n - 1) (omega arith)) s.above
        (λ y b d. back y (next-still t (get_or xs (n - 1) 0) never y s b d))
