-- Alike boards: what holds on the second of a diary holds on the first, and of one without extras on both alike.
use Rattle.std.specs.Prelude.{◌≡◌, refl, Bool, true, false, List, [], ◌∷◌, ℕ, ◌+◌}
use Rattle.std.proofs.Common.{sym, ap, ◌∙◌, arith}
use Rattle.std.proofs.Math.Path.{subst}
use Rattle.cells.specs.Every.{every, Pairs, pairs_end, pairs_on}
use Rattle.calendar.specs.declared.Calendar.{Calendar}
use Rattle.cells.specs.Laws.Basics.{and_split, and-join, not-both}
use Rattle.calendar.specs.Search.{Found, nothing, at, is_at}
use Rattle.calendar.specs.Fits.{fits}
use Rattle.calendar.specs.Work.{joint_end}
use Rattle.timeline.specs.declared.ResourceTimeline.{ResourceTimeline}
use Rattle.timeline.specs.Bookings.{bookings}
use Rattle.timeline.specs.Earliest.{free_on, fits_at, free_to, starts_at}
use Rattle.timeline.specs.Theorems.Meaning.{free_more}
use Rattle.board.specs.declared.Board.{Board}
use Rattle.board.specs.Resources.{no_resource, lookup_to, lookup, on_board}
use Rattle.scheduler.specs.Alone.{Share, can_start, all_start, resource_in, diary_of}
use Rattle.scheduler.specs.Fitting.{all_free}
use Rattle.scheduler.specs.Alike.{AlikeDiary, Alike, NoExtra}
use Rattle.board.specs.Theorems.Meaning.{lookup-means}
use Rattle.board.specs.Laws.Keeping as keeping

-- the second of two shares wants the same of a diary alike but for extra bookings
pub record AlikeShare (x y : Share) : Type 0 where
  pub units_same : x.units ≡ y.units
  pub alike : AlikeDiary x.timeline y.timeline

pub free-less : (x y : Share) (s e : ℕ) → AlikeShare x y → free_on y.timeline y.units s e ≡ true → free_on x.timeline x.units s e ≡ true
free-less x y s e a h =
    rw (a.units_same, a.alike.capacity_same) (free_more y.timeline.capacity (bookings x.timeline) (bookings y.timeline) y.units s e a.alike.more h)

-- extra bookings free nothing
pub can-less : (resumable : Bool) (span : ℕ) (x y : Share) (s : ℕ) → AlikeShare x y → can_start resumable span y s ≡ true → can_start resumable span x s ≡ true
unfolding can_start starts_at free_to fits_at
can-less true span x y s a h = go (joint_end (y.timeline.calendar ∷ []) s span) refl h
  where
    go : (f : Found) → joint_end (y.timeline.calendar ∷ []) s span ≡ f → free_to y.timeline y.units s f ≡ true
        → free_to x.timeline x.units s (joint_end (x.timeline.calendar ∷ []) s span) ≡ true
    go nothing e g = absurd (not-both _ g refl)
    go (at d) e g = rw (ap (λ (c : Calendar). joint_end (c ∷ []) s span) a.alike.calendar_same ∙ e) (free-less x y s d a g)
can-less false span x y s a h =
    let w = and_split (fits y.timeline.calendar s (s + span)) (free_on y.timeline y.units s (s + span)) h in
    and-join (fits x.timeline.calendar s (s + span)) (free_on x.timeline x.units s (s + span))
    (ap (λ (c : Calendar). fits c s (s + span)) a.alike.calendar_same ∙ w.0)
    (free-less x y s (s + span) a w.1)

pub all-less : (resumable : Bool) (span : ℕ) (xs ys : List Share) (s : ℕ) → Pairs AlikeShare xs ys → all_start resumable span ys s ≡ true → all_start resumable span xs s ≡ true
unfolding all_start every
all-less resumable span [] (y ∷ ys) s x4 h = elim x4 [ ]
all-less resumable span (x ∷ xs) [] s x5 h = elim x5 [ ]
all-less resumable span [] [] s pairs_end h = refl
all-less resumable span (x ∷ xs) (y ∷ ys) s (pairs_on a p) h =
    let w = and_split (can_start resumable span y s) (all_start resumable span ys s) h in
    and-join (can_start resumable span x s) (all_start resumable span xs s) (can-less resumable span x y s a w.0) (all-less resumable span xs ys s p w.1)

pub all-free-less : (xs ys : List Share) (s e : ℕ) → Pairs AlikeShare xs ys → all_free ys s e ≡ true → all_free xs s e ≡ true
unfolding all_free every
all-free-less [] (y ∷ ys) s e x4 h = elim x4 [ ]
all-free-less (x ∷ xs) [] s e x5 h = elim x5 [ ]
all-free-less [] [] s e pairs_end h = refl
all-free-less (x ∷ xs) (y ∷ ys) s e (pairs_on a p) h =
    let w = and_split (free_on y.timeline y.units s e) (all_free ys s e) h in
    and-join (free_on x.timeline x.units s e) (all_free xs s e) (free-less x y s e a w.0) (all-free-less xs ys s e p w.1)

pub same_alike : (t : ResourceTimeline) → AlikeDiary t t
same_alike t = record { capacity_same = refl; calendar_same = refl; more = λ b. omega arith }

module _ (b c : Board) (k : Alike b c) where
  -- a number has the same place on both
  lookup-same : (n : ℕ) → lookup b n ≡ lookup c n
  lookup-same n = keeping.lookup-same c b b.len n (λ m l. (k.resources_alike m l).number_same) ∙ ap (λ (l : ℕ). lookup_to c l n) k.len_same

  pub on_same : (n : ℕ) → on_board b n ≡ on_board c n
  on_same n = ap is_at (lookup-same n)

  -- the diaries of a number are alike
  pub diaries-alike : (n : ℕ) → AlikeDiary (diary_of b n) (diary_of c n)
  unfolding resource_in
  diaries-alike n = subst (λ (g : Found). AlikeDiary (diary_of b n) (resource_in c g).timeline) (lookup-same n) (go (lookup b n) refl)
    where
      go : (f : Found) → lookup b n ≡ f → AlikeDiary (resource_in b f).timeline (resource_in c f).timeline
      go nothing e = same_alike no_resource.timeline
      go (at i) e = (k.resources_alike i (lookup-means b n i e).0).diary_alike

  -- and where no extra is on it, the other way round too
  pub diaries-same : (n : ℕ) → NoExtra b c n → AlikeDiary (diary_of c n) (diary_of b n)
  diaries-same n f = let a = diaries-alike n in record { capacity_same = sym a.capacity_same; calendar_same = sym a.calendar_same; more = f }
