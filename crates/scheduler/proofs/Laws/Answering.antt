-- What a resource answers alone is the least instant at which it can start, without any bound.
use Rattle.std.specs.Prelude.{◌≡◌, Bool, ◌&&◌}
use Rattle.std.proofs.Math.Path.{refl}
use Rattle.std.proofs.Math.Bool.{true, false, cond}
use mathlib.Core.List.{List, [], ◌∷◌, ◌++◌}
use Rattle.std.proofs.Common.{⊎_elim}
use Prim.Native.Nat.{ℕ, ◌≤◌, ◌<◌, max}
use native.Mathlib.Omega.{arith}
use Rattle.std.proofs.Math.ListN.{length}
use Rattle.std.proofs.Math.Dec.{leb}
use borrow.Author.Tests.{leb-true, leb-false, le-leb, lt-leb}
use Rattle.cells.specs.Laws.Basics.{and_split, and-join, no_way, not-both, lt-or-ge}
use Rattle.calendar.specs.Search.{Found, nothing, at, Earliest, Answers}
use Rattle.activity.specs.declared.ResourceRequirement.{ResourceRequirement}
use Rattle.activity.specs.declared.Activity.{Activity}
use Rattle.activity.specs.Serving.{serves}
use Rattle.cells.specs.Every.{every, Each, each_end, each_on}
use Rattle.board.specs.declared.Resource.{Resource}
use Rattle.board.specs.declared.Board.{Board}
use Rattle.board.specs.Resources.{on_board}
use Rattle.scheduler.specs.Alone.{all_start, earliest_of, companions_of, with_companions, duration_alone, span_alone, arrival, start_with, start_alone, served}
use Rattle.scheduler.specs.Choosing.{answer, candidates}
use Rattle.scheduler.specs.Plain.{starts_there, candidate_at, startable}
use Rattle.scheduler.specs.Laws.Together.{Sound, together-answers}
use Rattle.scheduler.specs.Laws.Ranking.{low}

module _ (b : Board) (a : Activity) (ready : ℕ) (q : ResourceRequirement) where
  -- the diaries of a resource and its companions keep the rules
  abbrev pub KeepsRules : Resource → Type 0
  KeepsRules r = every (on_board b) (companions_of r) ≡ true → Sound (with_companions b r q.usage)

  pub alone-answers : (r : Resource) → KeepsRules r → (t : ℕ) → Answers (starts_there b a ready q r) t (served b a ready q r t)
  unfolding starts_there start_alone start_with
  alone-answers r k t = go (serves q r.number r.kind r.skills) (every (on_board b) (companions_of r)) refl
    where
      span : ℕ
      span = span_alone a r

      from : ℕ
      from = max t (arrival b a ready r)

      all : ℕ → Bool
      all x = all_start a.resumable span (with_companions b r q.usage) x

      late : (x : ℕ) → x < from → t ≤ x → leb (arrival b a ready r) x && all x ≡ false
      late x l h = rw (lt-leb (arrival b a ready r) x (omega arith)) refl

      never : (x : ℕ) → all x ≡ false → leb (arrival b a ready r) x && all x ≡ false
      never x e = no_way (leb (arrival b a ready r) x && all x) (λ g. not-both (all x) (and_split (leb (arrival b a ready r) x) (all x) g).1 e)

      here : (f : Found) → Answers all from f → Answers (λ x. leb (arrival b a ready r) x && all x) t f
      here nothing w = λ x h. ⊎_elim (λ (l : x < from). late x l h) (λ (l : from ≤ x). never x (w x l)) (lt-or-ge x from)
      here (at s) w = record {
        low = omega (arith, w.low);
        holds = and-join (leb (arrival b a ready r) s) (all s) (le-leb (arrival b a ready r) s (omega (arith, w.low))) w.holds;
        first = λ x h l. ⊎_elim (λ (m : x < from). late x m h) (λ (m : from ≤ x). never x (w.first x m l)) (lt-or-ge x from);
      }

      go : (p c : Bool) → every (on_board b) (companions_of r) ≡ c
          → Answers (λ x. p && (c && (leb (arrival b a ready r) x && all x))) t
          (cond p (cond c (earliest_of a.resumable span (with_companions b r q.usage) from) nothing) nothing)
      go false c e = λ x h. refl
      go true false e = λ x h. refl
      go true true e = here (earliest_of a.resumable span (with_companions b r q.usage) from) (together-answers a.resumable span (with_companions b r q.usage) from (k e))

  pub told : (r : Resource) (s : Bool) (f : Found) → cond s (answer (duration_alone a r).process r f) [] ≡ answer (duration_alone a r).process r (cond s f nothing)
  unfolding answer
  told r true f = refl
  told r false f = refl

  -- of the candidates at t, those that start at t are those that can start there
  pub low-startable : (t : ℕ) (rs : List Resource) → Each KeepsRules rs → low t (candidates b a ready q t rs) ≡ startable b a ready q t rs
  unfolding low candidates startable answer
  low-startable t [] each_end = refl
  low-startable t (r ∷ rs) (each_on k ks) =
      rw (told r (serves q r.number r.kind r.skills) (start_alone b a ready q r t))
      (go (served b a ready q r t) (alone-answers r k t) (starts_there b a ready q r t) refl (low-startable t rs ks))
    where
      one : (s : ℕ) → Earliest (starts_there b a ready q r) t s → (l p : Bool) → leb s t ≡ l → starts_there b a ready q r t ≡ p
          → low t (candidates b a ready q t rs) ≡ startable b a ready q t rs
          → cond l (candidate_at a s r ∷ low t (candidates b a ready q t rs)) (low t (candidates b a ready q t rs))
          ≡ cond p (candidate_at a t r ∷ startable b a ready q t rs) (startable b a ready q t rs)
      one s w true true m e ih =
          let z : s ≡ t = omega (arith, w.low, leb-true s t m) in
          rw (z, ih) refl
      one s w true false m e ih =
          let z : s ≡ t = omega (arith, w.low, leb-true s t m) in
          absurd (not-both (starts_there b a ready q r t) (rw z at w.holds) e)
      one s w false true m e ih = absurd (not-both (starts_there b a ready q r t) e (w.first t (omega arith) (leb-false s t m)))
      one s w false false m e ih = ih

      go : (f : Found) → Answers (starts_there b a ready q r) t f → (p : Bool) → starts_there b a ready q r t ≡ p
          → low t (candidates b a ready q t rs) ≡ startable b a ready q t rs
          → low t (answer (duration_alone a r).process r f ++ candidates b a ready q t rs) ≡ cond p (candidate_at a t r ∷ startable b a ready q t rs) (startable b a ready q t rs)
      go nothing w true e ih = absurd (not-both (starts_there b a ready q r t) e (w t (omega arith)))
      go nothing w false e ih = ih
      go (at s) w p e ih = one s w (leb s t) p refl e ih

  -- and what can start at u, asked from an earlier t on, starts at u or before
  pub low-more : (t u : ℕ) → t ≤ u → (rs : List Resource) → Each KeepsRules rs → length (startable b a ready q u rs) ≤ length (low u (candidates b a ready q t rs))
  unfolding low candidates startable answer
  low-more t u l [] each_end = omega arith
  low-more t u l (r ∷ rs) (each_on k ks) =
      rw (told r (serves q r.number r.kind r.skills) (start_alone b a ready q r t))
      (go (served b a ready q r t) (alone-answers r k t) (starts_there b a ready q r u) refl (low-more t u l rs ks))
    where
      one : (s : ℕ) → Earliest (starts_there b a ready q r) t s → (m p : Bool) → leb s u ≡ m → starts_there b a ready q r u ≡ p
          → length (startable b a ready q u rs) ≤ length (low u (candidates b a ready q t rs))
          → length (cond p (candidate_at a u r ∷ startable b a ready q u rs) (startable b a ready q u rs))
          ≤ length (cond m (candidate_at a s r ∷ low u (candidates b a ready q t rs)) (low u (candidates b a ready q t rs)))
      one s w true true m e ih = omega arith
      one s w true false m e ih = omega arith
      one s w false true m e ih = absurd (not-both (starts_there b a ready q r u) e (w.first u l (leb-false s u m)))
      one s w false false m e ih = ih

      go : (f : Found) → Answers (starts_there b a ready q r) t f → (p : Bool) → starts_there b a ready q r u ≡ p
          → length (startable b a ready q u rs) ≤ length (low u (candidates b a ready q t rs))
          → length (cond p (candidate_at a u r ∷ startable b a ready q u rs) (startable b a ready q u rs))
          ≤ length (low u (answer (duration_alone a r).process r f ++ candidates b a ready q t rs))
      go nothing w true e ih = absurd (not-both (starts_there b a ready q r u) e (w u l))
      go nothing w false e ih = ih
      go (at s) w p e ih = one s w (leb s u) p refl e ih

  -- no candidate starts before t
  pub candidates-from : (t : ℕ) (rs : List Resource) → Each KeepsRules rs → Each (λ c. t ≤ c.start) (candidates b a ready q t rs)
  unfolding candidates answer
  candidates-from t [] each_end = each_end
  candidates-from t (r ∷ rs) (each_on k ks) =
      rw (told r (serves q r.number r.kind r.skills) (start_alone b a ready q r t))
      (go (served b a ready q r t) (alone-answers r k t) (candidates-from t rs ks))
    where
      go : (f : Found) → Answers (starts_there b a ready q r) t f → Each (λ c. t ≤ c.start) (candidates b a ready q t rs)
          → Each (λ c. t ≤ c.start) (answer (duration_alone a r).process r f ++ candidates b a ready q t rs)
      go nothing w ih = ih
      go (at s) w ih = each_on w.low ih
