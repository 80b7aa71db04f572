-- What a resource and its companions are asked by its plan, one after another, is what the definition asks of them.
use Rattle.std.specs.Prelude.{Option, Some, None}
use mathlib.Core.Path.{◌≡◌, refl, sym, ap, ◌∙◌}
use mathlib.Core.Bool.{Bool, true, false, cond}
use mathlib.Core.List.{List}
use mathlib.Core.Logic.{◌⊎◌, inl, inr, ⊎_elim}
use Prim.Native.Nat.{ℕ, ◌+◌, ◌-◌, ◌*◌, ◌^◌, ◌≤◌, ◌<◌, max}
use native.Mathlib.Omega.{arith}
use lib.ListN.{get_or, length, length-map, length-take}
use lib.Dec.{ltb, eqb}
use Rattle.cells.specs.Every.{every}
use Rattle.calendar.specs.Search.{Found, nothing, at}
use Rattle.timeline.specs.Valid as timeline
use Rattle.activity.specs.declared.ResourceRequirement.{ResourceRequirement}
use Rattle.activity.specs.declared.Activity.{Activity}
use Rattle.activity.specs.Serving.{serves}
use Rattle.activity.specs.Check.{activity_refusal}
use Rattle.board.specs.declared.Resource.{Resource}
use Rattle.board.specs.declared.Board.{Board}
use Rattle.board.specs.Resources.{resource_at, on_board}
use Rattle.board.specs.Valid.{valid}
use Rattle.board.specs.Theorems.Meaning.{resource-of}
use Rattle.scheduler.specs.Alone.{Share, one_unit, earliest_of, companions_of, with_companions, span_alone, arrival, start_with, start_alone}
use Rattle.scheduler.specs.Fitting.{among}
use Rattle.scheduler.specs.Shares.{start_on, no_share, next_asked}
use Rattle.scheduler.specs.Instants.{events, above, events_on}
use Rattle.scheduler.specs.Laws.Together.{Sound}
use Rattle.scheduler.specs.Laws.Ruled.{place-event, all-seated, seated-sound}
use Rattle.scheduler.specs.Laws.Asking.{Asked, asked-start, asked-on, asked-none, asked-listed, asked-less, asked-all}
use Rattle.place_plans.specs.declared.Plan.{Plan}
use Rattle.place_plans.specs.Plans.{plan_with, plan_of}
use Rattle.board.specs.Places.{Known}
use Rattle.place_companions.specs.Seats.{seat_of}
use Rattle.place_companions.proofs.Seating.{share_at, seat-none, seat-is, seat-there, seat-share}
use Rattle.place_companions.specs.declared.Asking.{Asking}
use Rattle.place_companions.specs.Steps.{idle, answered_by}
use Rattle.activity.specs.Laws.Judging.{accepted}
use Rattle.place_rounds.specs.Tables.{found_at, requirement_at}
use Rattle.place_rounds.proofs.Finding.{span_range, arrival-range, used-some}
use Rattle.place_choice.specs.Seeking.{Seeks}
use Rattle.place_companions.specs.declared.Member.{Member}
use Rattle.place_companions.specs.Members.{member_of}

module _ (b : Board) (a : Activity) (ready i t : ℕ) (q : ResourceRequirement) where
  abbrev r : Resource
  r = resource_at b i

  -- the resource and its companions
  abbrev those : List Share
  those = with_companions b r q.usage

  -- from the later of t and its arrival
  abbrev from : ℕ
  from = max t (arrival b a ready r)

  -- the asking of the resource at place i for a requirement, from t on
  pub record AskedTo (g : Asking) : Type 0 where
    pub few : g.next ≤ r.count
    pub soon : g.start ≤ 2 ^ 43
    pub so : every (on_board b) (companions_of r) ≡ true → Asked a.resumable (span_alone a r) those from (max from g.start) g.next

  -- after an answer: it goes on or is over, and fewer events or members are left
  pub record Told (g h : Asking) : Type 0 where
    pub on : h.next ≤ r.count → AskedTo h
    pub found : r.count < h.next → at h.start ≡ found_at b a ready q t i
    pub less : above (events_on b) h.start * 32 + (5 - h.next) < above (events_on b) g.start * 32 + (5 - g.next)

  -- or nothing is found
  unfoldable pub ToldBy : Asking → Option Asking → Type 0
  ToldBy g (Some h) = Told g h
  ToldBy g None = nothing ≡ found_at b a ready q t i

  -- the one that is asked next: it is on the board, and this is its plan
  pub record Next (p : Plan) (g : Asking) : Type 0 where
    pub here : i < b.len
    pub soon : t ≤ 2 ^ 43
    pub whole : length r.companions ≡ 4
    pub some : 1 ≤ q.usage
    pub plan : p ≡ plan_of b a ready r
    pub go : AskedTo g

  module _ (v : valid b ≡ true) (w : activity_refusal a ready ≡ 0) where
    pub going_start : t ≤ 2 ^ 43 → i < b.len → AskedTo idle
    going_start soon l =
        let z : max from 0 ≡ from = omega arith in
        record { few = omega arith; soon = omega arith; so = λ e. rw z (asked-start _ _ _ _ (omega (arith, soon, arrival-range b v a ready w i l))) }

    module _ (places : List ℕ) (known : Known b places) (p : Plan) (g : Asking) (n : Next p g) where
      abbrev l : i < b.len
      l = n.here

      abbrev plan : p ≡ plan_of b a ready r
      plan = n.plan

      abbrev go : AskedTo g
      go = n.go

      pub number-range : p.number < 16
      unfolding plan_with
      number-range = rw plan (omega (arith, (resource-of b v i l).number))

      pub companions-range : (p.count ≤ 4) × ((k : ℕ) → k < p.count → get_or p.companions k 0 ≤ 15)
      unfolding plan_with
      companions-range = rw plan ((resource-of b v i l).few, (resource-of b v i l).companions)

      pub count-is : p.count ≡ r.count
      unfolding plan_with
      count-is = rw plan refl

      span-is : p.span ≡ span_alone a r
      unfolding plan_with
      span-is = rw plan refl

      pub span_small : p.span ≤ 2 ^ 53
      unfolding plan_with
      span_small = rw plan (span_range b v a ready w i l)

      all-long : length those ≡ r.count + 1
      unfolding with_companions
      all-long = omega (arith, length-map (companions_of r) (one_unit b), length-take r.count r.companions, n.whole, (resource-of b v i l).few)

      module _ (on : every (on_board b) (companions_of r) ≡ true) where
        seat : (k : ℕ) → k < r.count + 1 → (p : ℕ) → seat_of i (companions_of r) places k ≡ Some p → (p < b.len) × (share_at b p (cond (ltb 0 k) 1 q.usage) ≡ get_or those k no_share)
        seat k m p e =
            let o : k < length those = omega (arith, all-long) in
            (seat-there b v places known i l q.usage on k o p e, seat-share b v places known i l q.usage on k o p e)

        sound : Sound those
        sound = seated-sound b v those (all-seated b v i q.usage l on)

      module _ (m : Member) (is : m ≡ member_of q p i places t g) where
        abbrev here : ℕ
        here = max from g.start

        from_is : m.from ≡ here
        unfolding member_of plan_with
        from_is = rw (is, plan) refl

        place_is : m.place ≡ cond (serves q r.number r.kind r.skills) (seat_of i (companions_of r) places g.next) None
        unfolding member_of plan_with
        place_is = rw (is, plan) refl

        units-is : m.units ≡ cond (ltb 0 g.next) 1 q.usage
        unfolding member_of
        units-is = rw is refl

        -- a place on the board: it serves, and its companions are there
        place-there : (x : ℕ) → m.place ≡ Some x → (serves q r.number r.kind r.skills ≡ true) × (every (on_board b) (companions_of r) ≡ true)
        place-there x h = cases (serves q r.number r.kind r.skills) (every (on_board b) (companions_of r)) refl refl
          where
            cases : (c d : Bool) → serves q r.number r.kind r.skills ≡ c → every (on_board b) (companions_of r) ≡ d → (c ≡ true) × (d ≡ true)
            cases true true e f = (refl, refl)
            cases true false e f =
                let z : m.place ≡ None = place_is ∙ rw e (seat-none b v places known i l q.usage g.next f) in
                cc
            cases false d e f =
                let z : m.place ≡ None = place_is ∙ rw e refl in
                cc

        -- or nothing is found
        pub place-nowhere : m.place ≡ None → nothing ≡ found_at b a ready q t i
        unfolding found_at start_alone start_with
        place-nowhere h = cases (serves q r.number r.kind r.skills) (every (on_board b) (companions_of r)) refl refl
          where
            cases : (c d : Bool) → serves q r.number r.kind r.skills ≡ c → every (on_board b) (companions_of r) ≡ d
                → nothing ≡ cond c (cond d (earliest_of a.resumable (span_alone a r) those from) nothing) nothing
            cases true true e f =
                let o : g.next < length those = omega (arith, go.few, all-long) in
                let z : m.place ≡ seat_of i (companions_of r) places g.next = place_is ∙ rw e refl in
                let s = seat-is b v places known i l q.usage f g.next o in
                cc
            cases true false e f = refl
            cases false d e f = refl

        few : g.next < 5
        few = omega (arith, go.few, (resource-of b v i l).few)

        -- the next one is asked
        module _ (x : ℕ) (h : m.place ≡ Some x) where
          on : every (on_board b) (companions_of r) ≡ true
          on = (place-there x h).1

          lt : g.next < length those
          lt = omega (arith, go.few, all-long)

          sits : (x < b.len) × (share_at b x (cond (ltb 0 g.next) 1 q.usage) ≡ get_or those g.next no_share)
          sits =
              let z : m.place ≡ seat_of i (companions_of r) places g.next = place_is ∙ rw (place-there x h).0 refl in
              seat on g.next (omega (arith, go.few)) x (sym z ∙ h)

          pub there : x < b.len
          there = sits.0

          pub diary-kept : timeline.valid (resource_at b x).timeline ≡ true
          diary-kept = (resource-of b v x there).timeline

          pub units-some : 1 ≤ m.units
          units-some = rw units-is (units (ltb 0 g.next))
            where
              units : (c : Bool) → 1 ≤ cond c 1 q.usage
              units true = omega arith
              units false = n.some

          pub from-small : m.from ≤ 2 ^ 43
          from-small = omega (arith, from_is, (go.so on).range)

          share-is : share_at b x m.units ≡ get_or those g.next no_share
          share-is = rw units-is sits.1

          found-is : earliest_of a.resumable (span_alone a r) those from ≡ found_at b a ready q t i
          unfolding found_at start_alone start_with
          found-is = rw ((place-there x h).0, on) refl

          listed : (y : ℕ) → (y ≡ here) ⊎ (among y (events (get_or those g.next no_share).timeline) ≡ true) → (y ≡ here) ⊎ (among y (events_on b) ≡ true)
          listed y =
              ⊎_elim inl
              (λ (e : among y (events (get_or those g.next no_share).timeline) ≡ true). inr (place-event b x y there (ap (λ (s : Share). among y (events s.timeline)) share-is ∙ e)))

          asked : (f : Found) → start_on a.resumable (span_alone a r) (get_or those g.next no_share) here ≡ f → ToldBy g (answered_by g.next here f)
          unfolding answered_by ToldBy
          asked nothing e = asked-none a.resumable (span_alone a r) those from here g.next (sound on) (go.so on) lt e ∙ found-is
          asked (at y) e =
              let k = asked-on a.resumable (span_alone a r) those from here g.next (sound on) (go.so on) lt y e in
              let w = asked-listed a.resumable (span_alone a r) those from here g.next (sound on) (go.so on) lt y e in
              let z : max from y ≡ y = omega (arith, k.sought.low) in
              record {
                on = λ n. record { few = n; soon = k.range; so = λ o. rw z k };
                found = λ n. asked-all a.resumable (span_alone a r) those from y (next_asked g.next (eqb y here)) (sound on) k (omega (arith, n, all-long)) ∙ found-is;
                less = asked-less (events_on b) 5 g.start here g.next y (omega arith) few (omega arith) w.0 (listed y w.1);
              }

          pub told-asked : (f : Found) → f ≡ start_on a.resumable p.span (share_at b x m.units) m.from → ToldBy g (answered_by g.next m.from f)
          told-asked f e =
              let z =
              e
              ∙ ap (λ (n : ℕ). start_on a.resumable n (share_at b x m.units) m.from) span-is
              ∙ ap (λ (s : Share). start_on a.resumable (span_alone a r) s m.from) share-is
              ∙ ap (λ (n : ℕ). start_on a.resumable (span_alone a r) (get_or those g.next no_share) n) from_is in
              rw from_is (asked f (sym z))

-- so it is with one that is sought
pub next-of : (b : Board) (a : Activity) (ready : ℕ) (p : Plan) (i j t : ℕ) (g : Asking) (s : Seeks b a ready p i j t) → length a.requirements ≡ 4 → length p.companions ≡ 4
    → AskedTo b a ready i t (requirement_at a j) g → Next b a ready i t (requirement_at a j) p g
unfolding plan_with
next-of b a ready p i j t g s m n go = record {
  here = s.here;
  soon = s.soon;
  whole = ap (λ (p : Plan). length p.companions) (sym s.plan) ∙ n;
  some = used-some a ready j s.accepted (omega (arith, m, (accepted a ready s.accepted).few)) s.one;
  plan = s.plan;
  go = go;
}
