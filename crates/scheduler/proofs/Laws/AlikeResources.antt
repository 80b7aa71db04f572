-- Alike boards, resource by resource: what can start at an instant on the second can on the first, and one without extras on both.
use Rattle.std.specs.Prelude.{◌≡◌, Bool, true, false, ◌&&◌, take}
use Rattle.std.proofs.Math.Path.{refl, sym, ap, subst, fun_ext}
use Rattle.std.proofs.Common.{◌∙◌, arith}
use mathlib.Core.List.{List, ◌∷◌, map}
use Prim.Native.Nat.{ℕ, ◌+◌}
use Rattle.std.proofs.Math.Dec.{leb}
use Rattle.timeline.specs.declared.ResourceTimeline.{ResourceTimeline}
use Rattle.activity.specs.declared.ResourceRequirement.{ResourceRequirement}
use Rattle.activity.specs.declared.Activity.{Activity}
use Rattle.activity.specs.Serving.{serves}
use Rattle.cells.specs.Every.{every, Each, Pairs, pairs_on}
use Rattle.board.specs.declared.Resource.{Resource}
use Rattle.board.specs.declared.Board.{Board}
use Rattle.board.specs.Resources.{no_resource, resources_of, number_at, on_board}
use Rattle.board.specs.Setups.{setup_on}
use Rattle.board.specs.Transport.{greatest_transport}
use Rattle.scheduler.specs.Alone.{all_start, diary_of, companions_of, one_unit, with_companions, duration_alone, span_alone, arrival}
use Rattle.scheduler.specs.Plain.{starts_there}
use Rattle.cells.specs.Laws.Each.{pairs-map, pairs-map-each}
use Rattle.cells.specs.Laws.Arrays.{pairs-cells}
use Rattle.scheduler.specs.Alike.{AlikeDiary, AlikeResource, Alike, NoExtra}
use Rattle.scheduler.specs.Laws.Ruled.{diary-at, all_there}
use Rattle.board.specs.Theorems.Meaning.{lookup-is}
use Rattle.scheduler.specs.Laws.AlikeDiaries.{AlikeShare, all-less, on_same, diaries-alike, diaries-same}

pass : (x y z p q : Bool) → (p ≡ true → q ≡ true) → x && (y && (z && p)) ≡ true → x && (y && (z && q)) ≡ true
pass true true true p q f h = f h
pass true true false p q f h = h
pass true false z p q f h = h
pass false y z p q f h = h

-- the same resource on both boards
pub record Twin (b c : Board) (r s : Resource) : Type 0 where
  pub alike : AlikeResource r s
  pub own_first : diary_of b r.number ≡ r.timeline
  pub own_second : diary_of c s.number ≡ s.timeline

module _ (b c : Board) (k : Alike b c) where
  pub twins : Pairs (Twin b c) (resources_of b) (resources_of c)
  twins =
      subst (λ (n : ℕ). Pairs (Twin b c) (resources_of b) (take n c.resources)) k.len_same
      (pairs-cells (Twin b c) no_resource b.len b.resources c.resources (all_there b k.first_valid) (omega (arith, all_there c k.second_valid, k.len_same)) (λ i l.
      record {
        alike = k.resources_alike i l;
        own_first = diary-at b (number_at b i) i (lookup-is b k.first_valid i l);
        own_second = diary-at c (number_at c i) i (lookup-is c k.second_valid i (omega (arith, k.len_same)));
      }))

  -- no extra is on a resource or on one of its companions
  pub record Clean (r : Resource) : Type 0 where
    pub itself : NoExtra b c r.number
    pub others : Each (NoExtra b c) (companions_of r)

  module _ (a : Activity) (r s : Resource) (w : Twin b c r s) where
    pub companions-twin : companions_of r ≡ companions_of s
    companions-twin = rw (w.alike.count_same, w.alike.companions_same) refl

    pub duration-twin : duration_alone a r ≡ duration_alone a s
    unfolding duration_alone
    duration-twin = rw w.alike.number_same refl

    pub setup-twin : (category own : ℕ) → setup_on r category own ≡ setup_on s category own
    setup-twin category own = rw (w.alike.matrix_same, w.alike.last_same) refl

    span-twin : span_alone a r ≡ span_alone a s
    span-twin = rw (duration-twin, setup-twin a.category (duration_alone a s).setup) refl

    arrival-twin : (ready : ℕ) → arrival b a ready r ≡ arrival c a ready s
    unfolding arrival
    arrival-twin ready =
        ap (λ (P : ℕ → Bool). ready + greatest_transport P b.transport a.origins r.number 16) (fun_ext (on_same b c k))
        ∙ ap (λ (ms : List ℕ). ready + greatest_transport (on_board c) ms a.origins r.number 16) k.transport_same
        ∙ ap (λ (n : ℕ). ready + greatest_transport (on_board c) c.transport a.origins n 16) w.alike.number_same

    more-shares : (u : ℕ) → Pairs AlikeShare (with_companions b r u) (with_companions c s u)
    unfolding with_companions
    more-shares u =
        subst (λ (cs : List ℕ). Pairs AlikeShare (with_companions b r u) (record { timeline = s.timeline; units = u } ∷ map (one_unit c) cs)) companions-twin
        (pairs_on (record { units_same = refl; alike = w.alike.diary_alike }) (pairs-map AlikeShare (one_unit b) (one_unit c) (companions_of r) (λ n. record { units_same = refl; alike = diaries-alike b c k n })))

    same-shares : (u : ℕ) → Clean r → Pairs AlikeShare (with_companions c s u) (with_companions b r u)
    unfolding with_companions
    same-shares u f =
        subst (λ (cs : List ℕ). Pairs AlikeShare (record { timeline = s.timeline; units = u } ∷ map (one_unit c) cs) (with_companions b r u)) companions-twin
        (pairs_on (record { units_same = refl; alike = own }) (pairs-map-each (NoExtra b c) AlikeShare (one_unit c) (one_unit b) (companions_of r) (λ n e. record { units_same = refl; alike = diaries-same b c k n e }) f.others))
      where
        own : AlikeDiary s.timeline r.timeline
        own =
            subst (λ (t : ResourceTimeline). AlikeDiary s.timeline t) w.own_first
            (subst (λ (t : ResourceTimeline). AlikeDiary t (diary_of b r.number)) (ap (diary_of c) w.alike.number_same ∙ w.own_second) (diaries-same b c k r.number f.itself))

    module _ (ready : ℕ) (q : ResourceRequirement) (t : ℕ) where
      -- on the second board only what is free is tested otherwise
      second : starts_there c a ready q s t
          ≡ serves q r.number r.kind r.skills
          && (every (on_board b) (companions_of r) && (leb (arrival b a ready r) t && all_start a.resumable (span_alone a r) (with_companions c s q.usage) t))
      unfolding starts_there
      second =
          let e : serves q s.number s.kind s.skills ≡ serves q r.number r.kind r.skills = sym serves-twin in
          let f : every (on_board c) (companions_of s) ≡ every (on_board b) (companions_of r) = sym (ap (λ (P : ℕ → Bool). every P (companions_of r)) (fun_ext (on_same b c k)) ∙ ap (every (on_board c)) companions-twin) in
          let g : leb (arrival c a ready s) t ≡ leb (arrival b a ready r) t = sym (ap (λ (n : ℕ). leb n t) (arrival-twin ready)) in
          let h : span_alone a s ≡ span_alone a r = sym span-twin in
          rw (e, f, g, h) refl
        where
          serves-twin : serves q r.number r.kind r.skills ≡ serves q s.number s.kind s.skills
          serves-twin = rw (w.alike.number_same, w.alike.kind_same, w.alike.skills_same) refl

      pub starts-less : starts_there c a ready q s t ≡ true → starts_there b a ready q r t ≡ true
      unfolding starts_there
      starts-less h = pass (serves q r.number r.kind r.skills) (every (on_board b) (companions_of r)) (leb (arrival b a ready r) t) _ _ (all-less a.resumable (span_alone a r) (with_companions b r q.usage) (with_companions c s q.usage) t (more-shares q.usage)) (sym second ∙ h)

      pub starts-same : Clean r → starts_there b a ready q r t ≡ true → starts_there c a ready q s t ≡ true
      unfolding starts_there
      starts-same f h = second ∙ pass (serves q r.number r.kind r.skills) (every (on_board b) (companions_of r)) (leb (arrival b a ready r) t) _ _ (all-less a.resumable (span_alone a r) (with_companions c s q.usage) (with_companions b r q.usage) t (same-shares q.usage f)) h
