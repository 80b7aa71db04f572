-- Alike boards: what they choose, and what is placed on them.
use Rattle.std.specs.Prelude.{◌≡◌, Bool, true, false, ℕ, ◌≤◌, ◌<◌}
use Rattle.std.proofs.Math.Path.{refl, sym, ap, subst}
use Rattle.std.proofs.Common.{◌∙◌, ⊎_elim, arith}
use mathlib.Core.List.{List, [], ◌∷◌}
use Rattle.cells.specs.Laws.Basics.{not-both, lt-or-ge}
use Rattle.calendar.specs.Search.{Found, nothing, at, when, Earliest}
use Rattle.calendar.specs.Laws.Searching.{not_at}
use Rattle.activity.specs.declared.ResourceRequirement.{ResourceRequirement}
use Rattle.activity.specs.declared.Activity.{Activity}
use Rattle.activity.specs.Check.{requirements_of, activity_refusal}
use Rattle.board.specs.declared.Board.{Board}
use Rattle.scheduler.specs.Alone.{span_of}
use Rattle.scheduler.specs.Choosing.{Held, Choice, no_choice, chosen, choosing}
use Rattle.scheduler.specs.declared.Entry.{Entry}
use Rattle.scheduler.specs.Fitting.{entries_of, span_together, shares_of, fitting, end_of}
use Rattle.scheduler.specs.Placing.{Placement, Reply, placed, chosen_none, none, refused, ended, started}
use Rattle.scheduler.specs.Placing.{fitted, fit_chosen, time_only, by_requirements, placing, choosing_instant, refusal_of}
use Rattle.scheduler.specs.Plain.{enough, held_at, Chooses}
use Rattle.cells.specs.Every.{Each, each_end, Pairs}
use Rattle.scheduler.proofs.Theorems.Meaning.{choosing-means}
use Rattle.activity.specs.Laws.Judging.{some-of-each}
use Rattle.scheduler.specs.Alike.{Alike, NoExtra}
use Rattle.scheduler.proofs.Laws.AlikeResources.{Clean}
use Rattle.scheduler.proofs.Laws.AlikeHeld.{TwinHeld, enough-less, held_same, entries-same, clean-held-all, fitted-same}

fitted-instant : (b : Board) (a : Activity) (span t : ℕ) (es : List Entry) → choosing_instant (fitted b a span t es) ≡ at t
unfolding fitted started ended choosing_instant
fitted-instant b a span t es = go (fitting a.resumable (shares_of b es) a.calendar span t)
  where
    end : (s : ℕ) (f : Found) → choosing_instant (ended t s es f) ≡ at t
    end s nothing = refl
    end s (at e) = refl

    go : (f : Found) → choosing_instant (started a.resumable (shares_of b es) a span t es f) ≡ at t
    go nothing = refl
    go (at s) = end s (end_of a.resumable (shares_of b es) a.calendar span s)

-- what the two boards choose
module _ (b c : Board) (k : Alike b c) (a : Activity) (ready : ℕ) (q : ResourceRequirement) (qs : List ResourceRequirement)
    (asks : requirements_of a ≡ q ∷ qs) (some : 1 ≤ q.quantity) where
  abbrev P : ℕ → Bool
  P x = enough b a ready (q ∷ qs) x

  abbrev Q : ℕ → Bool
  Q x = enough c a ready (q ∷ qs) x

  pub first : Chooses P (held_at b a ready (q ∷ qs)) ready (choosing b a ready)
  first = choosing-means b k.first_valid a ready q qs asks some

  pub second : Chooses Q (held_at c a ready (q ∷ qs)) ready (choosing c a ready)
  second = choosing-means c k.second_valid a ready q qs asks some

  -- the second chooses only if the first does, and never earlier
  pub chosen-later : (u : ℕ) (ks : List Held) → choosing c a ready ≡ chosen u ks → (t : ℕ) × (hs : List Held) × (choosing b a ready ≡ chosen t hs) × (t ≤ u)
  chosen-later u ks e = go (choosing b a ready) refl first
    where
      late : Earliest Q ready u × (ks ≡ held_at c a ready (q ∷ qs) u)
      late = subst (Chooses Q (held_at c a ready (q ∷ qs)) ready) e second

      on : P u ≡ true
      on = enough-less b c k a ready (q ∷ qs) u late.0.holds

      go : (f : Choice) → choosing b a ready ≡ f → Chooses P (held_at b a ready (q ∷ qs)) ready f → (t : ℕ) × (hs : List Held) × (choosing b a ready ≡ chosen t hs) × (t ≤ u)
      go no_choice h w = absurd (not-both (P u) on (w u late.0.low))
      go (chosen t hs) h w = (t, hs, h, ⊎_elim (λ (l : u < t). absurd (not-both (P u) on (w.0.first u late.0.low l))) (λ (l : t ≤ u). l) (lt-or-ge u t))

  -- and where no extra is on those held and their companions, it chooses the same
  chosen-same : (t : ℕ) (hs : List Held) → choosing b a ready ≡ chosen t hs → Each (λ h. Clean b c k h.resource) hs
      → (ks : List Held) × (choosing c a ready ≡ chosen t ks) × Pairs (TwinHeld b c k a ready) hs ks
  chosen-same t hs e z = go (choosing c a ready) refl second
    where
      early : Earliest P ready t × (hs ≡ held_at b a ready (q ∷ qs) t)
      early = subst (Chooses P (held_at b a ready (q ∷ qs)) ready) e first

      both : (Q t ≡ true) × Pairs (TwinHeld b c k a ready) (held_at b a ready (q ∷ qs) t) (held_at c a ready (q ∷ qs) t)
      both = held_same b c k a ready (q ∷ qs) t (subst (Each (λ h. Clean b c k h.resource)) early.1 z) early.0.holds

      go : (f : Choice) → choosing c a ready ≡ f → Chooses Q (held_at c a ready (q ∷ qs)) ready f
          → (ks : List Held) × (choosing c a ready ≡ chosen t ks) × Pairs (TwinHeld b c k a ready) hs ks
      go no_choice h w = absurd (not-both (Q t) both.0 (w t early.0.low))
      go (chosen u ks) h w =
          let l = ⊎_elim (λ (m : t < u). absurd (not-both (Q t) both.0 (w.0.first t early.0.low m))) (λ (m : u ≤ t). m) (lt-or-ge t u) in
          let n = ⊎_elim (λ (m : u < t). absurd (not-both (P u) (enough-less b c k a ready (q ∷ qs) u w.0.holds) (early.0.first u w.0.low m))) (λ (m : t ≤ u). m) (lt-or-ge u t) in
          let i : u ≡ t = omega arith in
          (ks, rw (← i) h, rw (early.1, w.1, i) both.1)

entries_in : Reply → List Entry
entries_in (placed p) = p.entries
entries_in (chosen_none t) = []
entries_in none = []
entries_in (refused n) = []

unfoldable pub is_placed : Reply → Bool
is_placed (placed p) = true
is_placed (chosen_none t) = false
is_placed none = false
is_placed (refused n) = false

pub not-placed : {X : Type 0} (r : Reply) → is_placed r ≡ false → (p : Placement) → r ≡ placed p → X
unfolding is_placed
not-placed r h p f = absurd (not-both true refl (sym (ap is_placed f) ∙ h))

-- a placement reports the entries that were fitted
fitted-entries : (b : Board) (a : Activity) (span t : ℕ) (es : List Entry) → is_placed (fitted b a span t es) ≡ true → entries_in (fitted b a span t es) ≡ es
unfolding fitted started ended entries_in is_placed
fitted-entries b a span t es = go (fitting a.resumable (shares_of b es) a.calendar span t)
  where
    end : (s : ℕ) (f : Found) → is_placed (ended t s es f) ≡ true → entries_in (ended t s es f) ≡ es
    end s nothing h = absurd (not-both true refl (sym h))
    end s (at e) h = refl

    go : (f : Found) → is_placed (started a.resumable (shares_of b es) a span t es f) ≡ true → entries_in (started a.resumable (shares_of b es) a span t es f) ≡ es
    go nothing h = absurd (not-both true refl (sym h))
    go (at s) h = end s (end_of a.resumable (shares_of b es) a.calendar span s) h

fitted-unrefused : (b : Board) (a : Activity) (span t : ℕ) (es : List Entry) → refusal_of (fitted b a span t es) ≡ nothing
unfolding fitted started ended refusal_of
fitted-unrefused b a span t es = go (fitting a.resumable (shares_of b es) a.calendar span t)
  where
    end : (s : ℕ) (f : Found) → refusal_of (ended t s es f) ≡ nothing
    end s nothing = refl
    end s (at e) = refl

    go : (f : Found) → refusal_of (started a.resumable (shares_of b es) a span t es f) ≡ nothing
    go nothing = refl
    go (at s) = end s (end_of a.resumable (shares_of b es) a.calendar span s)

-- what passes the checks is not refused
pub placing-unrefused : (b : Board) (a : Activity) (ready : ℕ) → refusal_of (placing b a ready) ≡ nothing
unfolding placing by_requirements time_only fit_chosen refusal_of
placing-unrefused b a ready = go (requirements_of a) (choosing b a ready)
  where
    go : (l : List ResourceRequirement) (f : Choice) → refusal_of (by_requirements l (time_only b a ready) (fit_chosen b a f)) ≡ nothing
    go [] f = fitted-unrefused b a (span_of a.duration.setup a.duration) ready []
    go (q ∷ qs) no_choice = refl
    go (q ∷ qs) (chosen t hs) = fitted-unrefused b a (span_together a hs) t (entries_of a hs)

module _ (b c : Board) (k : Alike b c) (a : Activity) (ready from : ℕ) (lawful : activity_refusal a from ≡ 0) where
  -- the same placement, where no extra is on a resource that it reports
  pub placing-same : (p : Placement) → placing b a ready ≡ placed p → Each (λ x. NoExtra b c x.number) p.entries → placing c a ready ≡ placed p
  unfolding placing by_requirements time_only fit_chosen is_placed entries_in
  placing-same p h z = go (requirements_of a) refl h
    where
      held : (q : ResourceRequirement) (qs : List ResourceRequirement) → requirements_of a ≡ q ∷ qs → (f : Choice) → choosing b a ready ≡ f
          → fit_chosen b a f ≡ placed p → fit_chosen c a (choosing c a ready) ≡ placed p
      held q qs asks no_choice f g = not-placed none refl p g
      held q qs asks (chosen u hs) f g =
          let i : entries_of a hs ≡ p.entries = sym (fitted-entries b a (span_together a hs) u (entries_of a hs) (ap is_placed g)) ∙ ap entries_in g in
          let y : Each (λ x. NoExtra b c x.number) (entries_of a hs) = subst (Each (λ x. NoExtra b c x.number)) (sym i) z in
          let w = chosen-same b c k a ready q qs asks (some-of-each a from q qs asks lawful) u hs f (clean-held-all b c k a hs y) in
          let j = entries-same b c k a ready hs w.0 w.2 in
          let n : fitted c a (span_together a w.0) u (entries_of a w.0) ≡ fitted c a (span_together a hs) u (entries_of a hs) = ap (λ (x : List Entry). fitted c a (span_together a w.0) u x) (sym j.0) ∙ ap (λ (m : ℕ). fitted c a m u (entries_of a hs)) (sym j.1) in
          ap (fit_chosen c a) w.1 ∙ n ∙ sym (fitted-same b c k a (entries_of a hs) y (span_together a hs) u) ∙ g

      go : (l : List ResourceRequirement) → requirements_of a ≡ l
          → by_requirements l (time_only b a ready) (fit_chosen b a (choosing b a ready)) ≡ placed p
          → by_requirements l (time_only c a ready) (fit_chosen c a (choosing c a ready)) ≡ placed p
      go [] asks g = sym (fitted-same b c k a [] each_end (span_of a.duration.setup a.duration) ready) ∙ g
      go (q ∷ qs) asks g = held q qs asks (choosing b a ready) refl g

  -- the second has a choosing instant only if the first has, and never an earlier one
  pub placing-later : (u : ℕ) → choosing_instant (placing c a ready) ≡ at u → (t : ℕ) × (choosing_instant (placing b a ready) ≡ at t) × (t ≤ u)
  unfolding placing by_requirements time_only fit_chosen choosing_instant when
  placing-later u h = go (requirements_of a) refl h
    where
      held : (q : ResourceRequirement) (qs : List ResourceRequirement) → requirements_of a ≡ q ∷ qs → (f : Choice) → choosing c a ready ≡ f
          → choosing_instant (fit_chosen c a f) ≡ at u → (t : ℕ) × (choosing_instant (fit_chosen b a (choosing b a ready)) ≡ at t) × (t ≤ u)
      held q qs asks no_choice f g = absurd (not_at u g)
      held q qs asks (chosen v ks) f g =
          let i : v ≡ u = ap when (sym (fitted-instant c a (span_together a ks) v (entries_of a ks)) ∙ g) in
          let w = chosen-later b c k a ready q qs asks (some-of-each a from q qs asks lawful) v ks f in
          (w.0, ap (λ (x : Choice). choosing_instant (fit_chosen b a x)) w.2 ∙ fitted-instant b a (span_together a w.1) w.0 (entries_of a w.1), omega (arith, w.3))

      go : (l : List ResourceRequirement) → requirements_of a ≡ l → choosing_instant (by_requirements l (time_only c a ready) (fit_chosen c a (choosing c a ready))) ≡ at u
          → (t : ℕ) × (choosing_instant (by_requirements l (time_only b a ready) (fit_chosen b a (choosing b a ready))) ≡ at t) × (t ≤ u)
      go [] asks g =
          let i : ready ≡ u = ap when (sym (fitted-instant c a (span_of a.duration.setup a.duration) ready []) ∙ g) in
          (ready, fitted-instant b a (span_of a.duration.setup a.duration) ready [], omega arith)
      go (q ∷ qs) asks g = held q qs asks (choosing c a ready) refl g
