-- The rounds end in the least instant with enough resources for every requirement, and hold the first of those; 'none' only if there is
-- no such instant at all.
use Rattle.std.specs.Prelude.{◌≡◌, ◌&&◌, ◌||◌, cond, ◌⊎◌, length, leb}
use Rattle.std.proofs.Math.Path.{refl, ap}
use Rattle.std.proofs.Common.{sym, ◌∙◌, arith, eqb-true, leb-true, le-leb}
use Rattle.std.proofs.Math.Bool.{Bool, true, false}
use mathlib.Core.List.{List, [], ◌∷◌, ◌++◌}
use Rattle.std.proofs.Math.Logic.{inl, inr, ⊎_elim}
use Prim.Native.Nat.{ℕ, zero, suc, ◌≤◌, ◌<◌, max}
use Rattle.std.proofs.Math.Dec.{eqb}
use Rattle.std.proofs.lemmas.Bool.{eqb-false}
use Rattle.cells.specs.Laws.Basics.{and_split, and-join, no_way, lt-or-ge, or_left, or_right}
use Rattle.calendar.specs.Search.{Found, nothing, at, greatest_of, Earliest, Answers}
use Rattle.timeline.specs.Laws.Searching.{Sought, sought-start}
use Rattle.activity.specs.declared.ResourceRequirement.{ResourceRequirement}
use Rattle.activity.specs.declared.Activity.{Activity}
use Rattle.activity.specs.Serving.{serves}
use Rattle.cells.specs.Every.{every, Each, each_end, each_on}
use Rattle.activity.specs.Check.{requirements_of}
use Rattle.board.specs.declared.Resource.{Resource}
use Rattle.board.specs.declared.Board.{Board}
use Rattle.board.specs.Resources.{resources_of, on_board}
use Rattle.scheduler.specs.Alone.{all_start, companions_of, with_companions, duration_alone, span_alone, arrival, start_alone, served}
use Rattle.scheduler.specs.Choosing.{sort_into, answer, candidates, Held, hold_first, Round, too_few, holds, round, greatest_start, chosen, settle, rounds}
use Rattle.scheduler.specs.Fitting.{among}
use Rattle.scheduler.specs.Plain.{starts_there, enough, held_at, Chooses}
use Rattle.cells.specs.Laws.Each.{each_append}
use Rattle.scheduler.specs.Laws.Together.{all_back}
use Rattle.scheduler.specs.Laws.Ranking.{each-sort}
use Rattle.scheduler.proofs.Laws.Answering.{KeepsRules, alone-answers, told}
use Rattle.scheduler.proofs.Laws.Rounds.{held_in, not-few, hold-parts, each-hold, greatest-le, starts-le, greatest-ge}
use Rattle.scheduler.proofs.Laws.Rounds.{round-at, round-upto, round-from, round-stays, round-some}
use Rattle.scheduler.specs.Instants.{events_of, above}
use Rattle.scheduler.specs.Laws.Events.{calm-else, least-listed, above-falls}

-- the greatest start is one of the starts
greatest-is : (P : ℕ → Type 0) (hs : List Held) → Each (λ h. P h.start) hs → 1 ≤ length hs → P (greatest_start hs)
unfolding greatest_start greatest_of
greatest-is P [] a l = absurd (omega arith)
greatest-is P (h ∷ []) (each_on p a) l = let e : max h.start 0 ≡ h.start = omega arith in rw e p
greatest-is P (h ∷ k ∷ hs) (each_on p a) l = go (greatest_start (k ∷ hs)) (greatest-is P (k ∷ hs) a (omega arith))
  where
    go : (g : ℕ) → P g → P (max h.start g)
    go g r =
        ⊎_elim
        (λ (m : h.start < g). let e : max h.start g ≡ g = omega arith in rw e r)
        (λ (m : g ≤ h.start). let e : max h.start g ≡ h.start = omega arith in rw e p)
        (lt-or-ge h.start g)

module _ (b : Board) (a : Activity) (ready : ℕ) (kept : (q : ResourceRequirement) → Each (KeepsRules b a ready q) (resources_of b)) (points : List ℕ) where
  -- the arrival of a resource and the events on its diary and its companions' are among the points
  abbrev pub Listed : ResourceRequirement → Resource → Type 0
  Listed q r = every (on_board b) (companions_of r) ≡ true → (x : ℕ) → among x (arrival b a ready r ∷ events_of (with_companions b r q.usage)) ≡ true → among x points ≡ true

  abbrev pub OnPoint : ℕ → ℕ → Type 0
  OnPoint t s = (s ≡ t) ⊎ (among s points ≡ true)

  start-listed : (q : ResourceRequirement) (r : Resource) → Listed q r → (t s : ℕ) → Earliest (starts_there b a ready q r) t s → OnPoint t s
  unfolding starts_there among
  start-listed q r f t s w =
      let v = and_split (serves q r.number r.kind r.skills) (every (on_board b) (companions_of r) && (leb (arrival b a ready r) s && all_start a.resumable (span_alone a r) (with_companions b r q.usage) s)) w.holds in
      let c = (and_split (every (on_board b) (companions_of r)) (leb (arrival b a ready r) s && all_start a.resumable (span_alone a r) (with_companions b r q.usage) s) v.1).0 in
      ⊎_elim (λ (e : s ≡ t). inl e) (λ (e : among s (arrival b a ready r ∷ events_of (with_companions b r q.usage)) ≡ true). inr (f c s e))
      (least-listed (starts_there b a ready q r) (arrival b a ready r ∷ events_of (with_companions b r q.usage)) t s back w)
    where
      all : ℕ → Bool
      all x = all_start a.resumable (span_alone a r) (with_companions b r q.usage) x

      arrived : ℕ → Bool
      arrived x = leb (arrival b a ready r) x

      back : (y : ℕ) → t ≤ y → eqb (arrival b a ready r) (suc y) || among (suc y) (events_of (with_companions b r q.usage)) ≡ false
          → serves q r.number r.kind r.skills && (every (on_board b) (companions_of r) && (arrived (suc y) && all (suc y))) ≡ true
          → serves q r.number r.kind r.skills && (every (on_board b) (companions_of r) && (arrived y && all y)) ≡ true
      back y l e h =
          let S = serves q r.number r.kind r.skills in
          let C = every (on_board b) (companions_of r) in
          let u = and_split S (C && (arrived (suc y) && all (suc y))) h in
          let v = and_split C (arrived (suc y) && all (suc y)) u.1 in
          let z = and_split (arrived (suc y)) (all (suc y)) v.1 in
          let m = leb-true (arrival b a ready r) (suc y) z.0 in
          let n = eqb-false (arrival b a ready r) (suc y) (or_left (eqb (arrival b a ready r) (suc y)) (among (suc y) (events_of (with_companions b r q.usage))) e) in
          let k = all_back a.resumable (span_alone a r) (with_companions b r q.usage) y (calm-else (with_companions b r q.usage) y (or_right (eqb (arrival b a ready r) (suc y)) (among (suc y) (events_of (with_companions b r q.usage))) e)) z.1 in
          and-join S (C && (arrived y && all y)) u.0 (and-join C (arrived y && all y) v.0 (and-join (arrived y) (all y) (le-leb (arrival b a ready r) y (omega arith)) k))

  candidates-listed : (q : ResourceRequirement) (t : ℕ) (rs : List Resource) → Each (KeepsRules b a ready q) rs → Each (Listed q) rs
      → Each (λ c. OnPoint t c.start) (candidates b a ready q t rs)
  unfolding candidates answer
  candidates-listed q t [] each_end each_end = each_end
  candidates-listed q t (r ∷ rs) (each_on k ks) (each_on f fs) =
      rw (told b a ready q r (serves q r.number r.kind r.skills) (start_alone b a ready q r t))
      (go (served b a ready q r t) (alone-answers b a ready q r k t) (candidates-listed q t rs ks fs))
    where
      go : (g : Found) → Answers (starts_there b a ready q r) t g → Each (λ c. OnPoint t c.start) (candidates b a ready q t rs)
          → Each (λ c. OnPoint t c.start) (answer (duration_alone a r).process r g ++ candidates b a ready q t rs)
      go nothing w ih = ih
      go (at s) w ih = each_on (start-listed q r f t s w) ih

  module _ (listed : (q : ResourceRequirement) → Each (Listed q) (resources_of b)) where
    round-listed : (t : ℕ) (qs : List ResourceRequirement) (hs : List Held) → round b a ready t qs ≡ holds hs → Each (λ h. OnPoint t h.start) hs
    unfolding round held_in
    round-listed t [] hs e = rw (ap held_in (sym e)) each_end
    round-listed t (q ∷ qs) hs e =
        let cs = candidates b a ready q t (resources_of b) in
        let p = hold-parts q cs (round b a ready t qs) hs e in
        rw p.all_is
        (each_append {A = Held} (λ h. OnPoint t h.start) (hold_first q (sort_into [] cs)) p.others
        (each-hold (OnPoint t) q (sort_into [] cs) (each-sort (λ c. OnPoint t c.start) [] cs each_end (candidates-listed q t (resources_of b) (kept q) (listed q))))
        (round-listed t qs p.others p.rest_is))

    module _ (q : ResourceRequirement) (qs : List ResourceRequirement) (asks : requirements_of a ≡ q ∷ qs) (some : 1 ≤ q.quantity) where
      abbrev P : ℕ → Bool
      P x = enough b a ready (q ∷ qs) x

      abbrev H : ℕ → List Held
      H x = held_at b a ready (q ∷ qs) x

      -- too few at t: never enough from t on
      never : (t : ℕ) → round b a ready t (q ∷ qs) ≡ too_few → (x : ℕ) → t ≤ x → P x ≡ false
      never t e x l = no_way (P x) (λ h. let w = round-upto b a ready kept t x l (q ∷ qs) h in not-few w.0 (sym e ∙ w.1))

      -- a step passes no instant with enough
      onward : (t : ℕ) (hs : List Held) → round b a ready t (q ∷ qs) ≡ holds hs → Sought P ready t → t ≤ greatest_start hs → Sought P ready (greatest_start hs)
      unfolding held_in
      onward t hs e s l = record {
        low = omega (arith, s.low);
        none = λ y m n.
            ⊎_elim (λ (z : y < t). s.none y m z)
            (λ (z : t ≤ y). no_way (P y) (λ h.
            let w = round-upto b a ready kept t y z (q ∷ qs) h in
            let k = greatest-le y w.0 w.2 in
            let j : w.0 ≡ hs = ap held_in (sym w.1 ∙ e) in
            let i : greatest_start hs ≤ y = rw j at k in
            omega arith))
            (lt-or-ge y t);
      }

      stays : (t : ℕ) (hs : List Held) → round b a ready t (q ∷ qs) ≡ holds hs → greatest_start hs ≡ t → (P t ≡ true) × (hs ≡ H t)
      unfolding held_in
      stays t hs e m =
          let p = round-stays b a ready kept t (q ∷ qs) hs e (starts-le t hs (omega arith)) in
          (p, ap held_in (sym e ∙ round-at b a ready kept t (q ∷ qs) p))

      -- a step leads to a listed instant, after which fewer are left
      pub round-falls : (t : ℕ) (hs : List Held) → round b a ready t (q ∷ qs) ≡ holds hs → (greatest_start hs ≡ t → ⊥)
          → (t ≤ greatest_start hs) × (above points (greatest_start hs) < above points t)
      round-falls t hs e ne =
          let most = round-some b a ready kept t q qs hs some e in
          let ge = greatest-ge t hs (round-from b a ready kept t (q ∷ qs) hs e) most in
          let on = greatest-is (OnPoint t) hs (round-listed t (q ∷ qs) hs e) most in
          (ge, ⊎_elim (λ (z : greatest_start hs ≡ t). absurd (ne z)) (λ (z : among (greatest_start hs) points ≡ true). above-falls points t (greatest_start hs) (omega (arith, ne)) z) on)

      rounds-choose : (n t : ℕ) → above points t < n → Sought P ready t → Chooses P H ready (rounds n b a ready t)
      unfolding rounds settle
      rounds-choose zero t l s = absurd (omega arith)
      rounds-choose (suc n) t l s = rw asks (go (round b a ready t (q ∷ qs)) refl (rounds-choose n))
        where
          step : (hs : List Held) → round b a ready t (q ∷ qs) ≡ holds hs → (k : Bool) → eqb (greatest_start hs) t ≡ k
              → ((u : ℕ) → above points u < n → Sought P ready u → Chooses P H ready (rounds n b a ready u))
              → Chooses P H ready (cond k (chosen t hs) (rounds n b a ready (greatest_start hs)))
          step hs e true k again =
              let w = stays t hs e (eqb-true (greatest_start hs) t k) in
              (record { low = s.low; holds = w.0; first = s.none }, w.1)
          step hs e false k again =
              let w = round-falls t hs e (eqb-false (greatest_start hs) t k) in
              again (greatest_start hs) (omega (arith, w.1)) (onward t hs e s w.0)

          go : (r : Round) → round b a ready t (q ∷ qs) ≡ r
              → ((u : ℕ) → above points u < n → Sought P ready u → Chooses P H ready (rounds n b a ready u))
              → Chooses P H ready (settle t r (rounds n b a ready))
          go too_few e again = λ x m. ⊎_elim (λ (z : x < t). s.none x m z) (λ (z : t ≤ x). never t e x z) (lt-or-ge x t)
          go (holds hs) e again = step hs e (eqb (greatest_start hs) t) refl again

      pub rounds-mean : (n : ℕ) → above points ready < n → Chooses P H ready (rounds n b a ready ready)
      rounds-mean n l = rounds-choose n ready l (sought-start P ready)
