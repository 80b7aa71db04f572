-- A round: it stays at an instant exactly when there are enough at that instant, and it never passes such an instant.
use Rattle.std.specs.Prelude.{◌≡◌, Bool, true, false, cond, ℕ, zero, suc, ◌+◌, ◌≤◌, leb, ltb}
use Rattle.std.proofs.Math.Path.{refl, ap}
use Rattle.std.proofs.Common.{sym, ◌∙◌, subst}
use mathlib.Core.List.{List, [], ◌∷◌, ◌++◌, map}
use native.Mathlib.Omega.{arith}
use Rattle.std.proofs.Math.ListN.{length, length-append, length-map, length-take, take}
use Rattle.std.proofs.Math.Seq.{take-length, take-append-le}
use borrow.Author.Tests.{leb-true, le-leb, ltb-false, le-ltb}
use Rattle.calendar.specs.Search.{greatest_of}
use Rattle.cells.specs.Laws.Basics.{and_split, and-join, not-both}
use Rattle.calendar.specs.Laws.Searching.{greatest-each, greatest-most}
use Rattle.activity.specs.declared.ResourceRequirement.{ResourceRequirement}
use Rattle.activity.specs.declared.Activity.{Activity}
use Rattle.board.specs.declared.Board.{Board}
use Rattle.board.specs.Resources.{no_resource, resources_of}
use Rattle.scheduler.specs.Choosing.{Candidate, sort, candidates, Held, held_for, hold_first, Round, too_few, holds, behind, hold, round, greatest_start}
use Rattle.scheduler.specs.Plain.{startable, enough, held_at}
use Rattle.cells.specs.Every.{Each, each_end, each_on}
use Rattle.cells.specs.Laws.Each.{each_append, each_take, each-in-map, each-of-map, each_left, each_right}
use Rattle.cells.specs.Laws.Arrays.{each_at, each-cells}
use Rattle.scheduler.specs.Laws.Ranking.{Low, High, low, high, low-each, high-each, low-high, sort-split, each-sort, length-sort}
use Rattle.scheduler.proofs.Laws.Answering.{KeepsRules, low-startable, low-more, candidates-from}

is_holds : Round → Bool
is_holds too_few = false
is_holds (holds hs) = true

-- those that a round holds
unfoldable pub held_in : Round → List Held
held_in too_few = []
held_in (holds hs) = hs

pub not-few : {X : Type 0} (hs : List Held) → too_few ≡ holds hs → X
unfolding is_holds
not-few hs e = absurd (not-both true refl (sym (ap is_holds e)))

-- what a requirement that is met adds
pub record HeldParts (q : ResourceRequirement) (cs : List Candidate) (rest : Round) (hs : List Held) : Type 0 where
  pub many : q.quantity ≤ length cs
  pub others : List Held
  pub rest_is : rest ≡ holds others
  pub all_is : hs ≡ hold_first q (sort cs) ++ others

pub hold-parts : (q : ResourceRequirement) (cs : List Candidate) (rest : Round) (hs : List Held) → hold q cs rest ≡ holds hs → HeldParts q cs rest hs
unfolding behind held_in
hold-parts q cs rest hs e = go (ltb (length cs) q.quantity) refl rest refl e
  where
    go : (l : Bool) → ltb (length cs) q.quantity ≡ l → (r : Round) → rest ≡ r → cond l too_few (behind (hold_first q (sort cs)) r) ≡ holds hs → HeldParts q cs rest hs
    go true l r s f = not-few hs f
    go false l too_few s f = not-few hs f
    go false l (holds ks) s f = record { many = ltb-false (length cs) q.quantity l; others = ks; rest_is = s; all_is = sym (ap held_in f) }

hold-is : (q : ResourceRequirement) (cs : List Candidate) (ks : List Held) → q.quantity ≤ length cs → hold q cs (holds ks) ≡ holds (hold_first q (sort cs) ++ ks)
unfolding behind
hold-is q cs ks l = rw (le-ltb (length cs) q.quantity l) refl

-- what is known of a candidate's start is known of the held one's
pub each-hold : (P : ℕ → Type 0) (q : ResourceRequirement) (cs : List Candidate) → Each {A = Candidate} (λ c. P c.start) cs
    → Each {A = Held} (λ h. P h.start) (hold_first q cs)
unfolding hold_first
each-hold P q cs a = each-in-map (λ h. P h.start) (held_for q) (take q.quantity cs) (each_take {A = Candidate} (λ c. P c.start) q.quantity cs a)

-- the first quantity of two lists, where the first list has so many
each-hold-front : (P : ℕ → Type 0) (q : ResourceRequirement) (xs ys : List Candidate) → q.quantity ≤ length xs
    → Each {A = Candidate} (λ c. P c.start) xs → Each {A = Held} (λ h. P h.start) (hold_first q (xs ++ ys))
unfolding hold_first
each-hold-front P q xs ys l a = rw (take-append-le q.quantity xs ys l) (each-hold P q xs a)

each-held : (P : ℕ → Type 0) (q : ResourceRequirement) (cs : List Candidate) → Each {A = Held} (λ h. P h.start) (hold_first q cs)
    → Each {A = Candidate} (λ c. P c.start) (take q.quantity cs)
unfolding hold_first
each-held P q cs a = each-of-map (λ h. P h.start) (held_for q) (take q.quantity cs) a

-- where the first k all start by t and what stands behind xs starts later, the first k are of xs
front : (t k : ℕ) (xs ys : List Candidate) → Each (High t) ys → Each (Low t) (take k (xs ++ ys)) → k ≤ length xs + length ys → k ≤ length xs
front t zero xs ys h a l = omega arith
front t (suc k) [] [] h a l = absurd (omega arith)
front t (suc k) [] (y ∷ ys) (each_on p h) (each_on r a) l = absurd (omega arith)
front t (suc k) (x ∷ xs) ys h (each_on r a) l = omega (arith, front t k xs ys h a (omega arith))

abbrev no_held : Held
no_held = record { start = 0; resource = no_resource; usage = 0 }

-- the greatest start is at most u where each is
pub greatest-le : (u : ℕ) (hs : List Held) → Each (λ h. h.start ≤ u) hs → greatest_start hs ≤ u
unfolding greatest_start
greatest-le u hs a = greatest-most (λ (h : Held). h.start) no_held hs u (each_at (λ h. h.start ≤ u) no_held hs a)

pub starts-le : (u : ℕ) (hs : List Held) → greatest_start hs ≤ u → Each (λ h. h.start ≤ u) hs
unfolding greatest_start
starts-le u hs l =
    subst (Each (λ h. h.start ≤ u)) (take-length hs)
    (each-cells (λ h. h.start ≤ u) no_held (length hs) hs (λ k m n. omega (arith, greatest-each (λ (h : Held). h.start) no_held hs k n)))

pub greatest-ge : (t : ℕ) (hs : List Held) → Each (λ h. t ≤ h.start) hs → 1 ≤ length hs → t ≤ greatest_start hs
unfolding greatest_start greatest_of
greatest-ge t [] each_end l = absurd (omega arith)
greatest-ge t (h ∷ hs) (each_on p a) l = omega arith

module _ (b : Board) (a : Activity) (ready : ℕ) (kept : (q : ResourceRequirement) → Each (KeepsRules b a ready q) (resources_of b)) where
  here : ResourceRequirement → ℕ → List Candidate
  here q t = candidates b a ready q t (resources_of b)

  length-low : (q : ResourceRequirement) (t : ℕ) → length (low t (here q t)) ≡ length (startable b a ready q t (resources_of b))
  unfolding here
  length-low q t = ap length (low-startable b a ready q t (resources_of b) (kept q))

  -- with enough at t the round holds those
  pub round-at : (t : ℕ) (qs : List ResourceRequirement) → enough b a ready qs t ≡ true → round b a ready t qs ≡ holds (held_at b a ready qs t)
  unfolding enough round held_at here hold_first
  round-at t [] e = refl
  round-at t (q ∷ qs) e =
      let w = and_split (leb q.quantity (length (startable b a ready q t (resources_of b)))) (enough b a ready qs t) e in
      let l = leb-true q.quantity (length (startable b a ready q t (resources_of b))) w.0 in
      let m : q.quantity ≤ length (here q t) = omega (arith, length-low q t, low-high t (here q t)) in
      rw (round-at t qs w.1) (hold-is q (here q t) (held_at b a ready qs t) m ∙ ap (λ l. holds (l ++ held_at b a ready qs t)) (same l))
    where
      same : q.quantity ≤ length (startable b a ready q t (resources_of b)) → hold_first q (sort (here q t)) ≡ hold_first q (sort (startable b a ready q t (resources_of b)))
      same l =
          ap (λ l. map (held_for q) l)
          (ap (take q.quantity) (sort-split t (here q t))
          ∙ take-append-le q.quantity (sort (low t (here q t))) (sort (high t (here q t))) (omega (arith, length-low q t, length-sort [] (low t (here q t))))
          ∙ ap (λ l. take q.quantity (sort l)) (low-startable b a ready q t (resources_of b) (kept q)))

  -- and asked from an earlier instant on, it holds some that start by then
  pub round-upto : (t u : ℕ) → t ≤ u → (qs : List ResourceRequirement) → enough b a ready qs u ≡ true
      → (hs : List Held) × (round b a ready t qs ≡ holds hs) × Each (λ h. h.start ≤ u) hs
  unfolding enough round here
  round-upto t u l [] e = ([], refl, each_end)
  round-upto t u l (q ∷ qs) e =
      let w = and_split (leb q.quantity (length (startable b a ready q u (resources_of b)))) (enough b a ready qs u) e in
      let k = leb-true q.quantity (length (startable b a ready q u (resources_of b))) w.0 in
      let n : q.quantity ≤ length (low u (here q t)) = omega (arith, low-more b a ready q t u l (resources_of b) (kept q)) in
      let m : q.quantity ≤ length (here q t) = omega (arith, low-high u (here q t)) in
      let r = round-upto t u l qs w.1 in
      (hold_first q (sort (here q t)) ++ r.0, rw r.1 (hold-is q (here q t) r.0 m), each_append {A = Held} (λ h. h.start ≤ u) (hold_first q (sort (here q t))) r.0 (early n) r.2)
    where
      early : q.quantity ≤ length (low u (here q t)) → Each {A = Held} (λ h. h.start ≤ u) (hold_first q (sort (here q t)))
      early n =
          rw (sort-split u (here q t))
          (each-hold-front (λ x. x ≤ u) q (sort (low u (here q t))) (sort (high u (here q t)))
          (omega (arith, length-sort [] (low u (here q t))))
          (each-sort (Low u) [] (low u (here q t)) each_end (low-each u (here q t))))

  -- what is held at t starts at t or later
  pub round-from : (t : ℕ) (qs : List ResourceRequirement) (hs : List Held) → round b a ready t qs ≡ holds hs → Each (λ h. t ≤ h.start) hs
  unfolding round here held_in
  round-from t [] hs e = rw (ap held_in (sym e)) each_end
  round-from t (q ∷ qs) hs e =
      let p = hold-parts q (here q t) (round b a ready t qs) hs e in
      rw p.all_is
      (each_append {A = Held} (λ h. t ≤ h.start) (hold_first q (sort (here q t))) p.others
      (each-hold (λ x. t ≤ x) q (sort (here q t)) (each-sort (λ c. t ≤ c.start) [] (here q t) each_end (candidates-from b a ready q t (resources_of b) (kept q))))
      (round-from t qs p.others p.rest_is))

  -- and where none starts later, there are enough at t
  pub round-stays : (t : ℕ) (qs : List ResourceRequirement) (hs : List Held) → round b a ready t qs ≡ holds hs → Each (λ h. h.start ≤ t) hs → enough b a ready qs t ≡ true
  unfolding round enough here
  round-stays t [] hs e a = refl
  round-stays t (q ∷ qs) hs e s =
      let p = hold-parts q (here q t) (round b a ready t qs) hs e in
      let z : Each {A = Held} (λ h. h.start ≤ t) (hold_first q (sort (here q t)) ++ p.others) = rw p.all_is at s in
      let f = each-held (λ x. x ≤ t) q (sort (here q t)) (each_left {A = Held} (λ h. h.start ≤ t) (hold_first q (sort (here q t))) p.others z) in
      let g : Each (Low t) (take q.quantity (sort (low t (here q t)) ++ sort (high t (here q t)))) = rw (sort-split t (here q t)) at f in
      let n = front t q.quantity (sort (low t (here q t))) (sort (high t (here q t))) (each-sort (High t) [] (high t (here q t)) each_end (high-each t (here q t))) g
      (omega (arith, length-sort [] (low t (here q t)), length-sort [] (high t (here q t)), low-high t (here q t), p.many)) in
      and-join _ _
      (le-leb q.quantity (length (startable b a ready q t (resources_of b))) (omega (arith, length-low q t, length-sort [] (low t (here q t)))))
      (round-stays t qs p.others p.rest_is (each_right {A = Held} (λ h. h.start ≤ t) (hold_first q (sort (here q t))) p.others z))

  -- something is held where something is asked
  pub round-some : (t : ℕ) (q : ResourceRequirement) (qs : List ResourceRequirement) (hs : List Held) → 1 ≤ q.quantity → round b a ready t (q ∷ qs) ≡ holds hs → 1 ≤ length hs
  unfolding round here hold_first
  round-some t q qs hs l e =
      let p = hold-parts q (here q t) (round b a ready t qs) hs e in
      rw p.all_is
      (omega (
        arith,
        length-append (hold_first q (sort (here q t))) p.others,
        length-map (take q.quantity (sort (here q t))) (held_for q),
        length-take q.quantity (sort (here q t)),
        length-sort [] (here q t),
        p.many,
      ))
