-- Several diaries together: past the last event nothing changes, and the least start on all of them without any bound.
use Rattle.std.specs.Prelude.{◌≡◌, refl, Bool, true, false, List, [], ◌∷◌, ℕ, suc, ◌≤◌}
use Rattle.std.proofs.Common.{arith}
use Rattle.cells.specs.Every.{every, Each, each_end, each_on}
use Rattle.cells.specs.Laws.Basics.{and_split, and-join}
use Rattle.calendar.specs.Search.{Found, greatest_of, Answers}
use Rattle.timeline.specs.Valid.{valid}
use Rattle.timeline.specs.Laws.Rules.{rules_of}
use Rattle.timeline.specs.Steps.{Still}
use Rattle.timeline.specs.Laws.Stepping.{fits-at-back, starts-at-back, last-still}
use Rattle.calendar.specs.Laws.Searching.{answers-same, least-answers}
use Rattle.scheduler.specs.Alone.{Share, can_start, all_start, last_of, earliest_of}

-- every diary keeps the rules
abbrev pub Sound : List Share → Type 0
Sound xs = Each (λ x. valid x.timeline ≡ true) xs

-- nothing happens at y on any of them
abbrev pub Calm : ℕ → List Share → Type 0
Calm y xs = Each (λ x. Still x.timeline y) xs

pub can-back : (resumable : Bool) (span : ℕ) (x : Share) (y : ℕ) → Still x.timeline (suc y) → can_start resumable span x (suc y) ≡ true → can_start resumable span x y ≡ true
unfolding can_start
can-back true span x y s h = starts-at-back x.timeline span x.units y s h
can-back false span x y s h = fits-at-back x.timeline span x.units y s h

pub all_back : (resumable : Bool) (span : ℕ) (xs : List Share) (y : ℕ) → Calm (suc y) xs → all_start resumable span xs (suc y) ≡ true → all_start resumable span xs y ≡ true
unfolding all_start every
all_back resumable span [] y each_end h = refl
all_back resumable span (x ∷ xs) y (each_on s c) h =
    let w = and_split _ _ h in
    and-join _ _ (can-back resumable span x y s w.0) (all_back resumable span xs y c w.1)

pub last-calm : (xs : List Share) → Sound xs → (y : ℕ) → last_of xs ≤ y → Calm (suc y) xs
unfolding last_of greatest_of
last-calm [] each_end y l = each_end
last-calm (x ∷ xs) (each_on v s) y l = each_on (last-still x.timeline (rules_of x.timeline v) y (omega arith)) (last-calm xs s y (omega arith))

-- the least start on all of them, and nothing only if there is none at all
pub together-answers : (resumable : Bool) (span : ℕ) (xs : List Share) (from : ℕ) → Sound xs → Answers (all_start resumable span xs) from (earliest_of resumable span xs from)
unfolding earliest_of
together-answers resumable span xs from v = least-answers (all_start resumable span xs) from (last_of xs) (λ y l. all_back resumable span xs y (last-calm xs v y l))

-- another answer is the same
pub together-is : (resumable : Bool) (span : ℕ) (xs : List Share) (from : ℕ) (f : Found) → Sound xs → Answers (all_start resumable span xs) from f
    → f ≡ earliest_of resumable span xs from
together-is resumable span xs from f v w = answers-same (all_start resumable span xs) (all_start resumable span xs) from f (earliest_of resumable span xs from) (λ x l. refl) w (together-answers resumable span xs from v)
