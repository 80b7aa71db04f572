-- The refusals of an order one by one, and what an order that is not refused keeps, and the other way round.
use Rattle.std.specs.Prelude.{◌≡◌, ℕ, ◌^◌, ◌<◌, ◌≤◌, Bool, true, false, cond, not, ◌&&◌, ◌||◌, ltb, leb, List, ◌∷◌, length, get_or, take, nat_le, nat_lt, slice_index, slice_index_or}
use Rattle.std.proofs.Math.Path.{refl, sym}
use Rattle.std.proofs.Common.{subst, arith, get_or-take}
use Rattle.std.proofs.Math.Bool.{and-false}
use borrow.Author.Tests.{lt-ltb, lt-leb, le-ltb, le-leb, leb-true, ltb-false, not-false}
use Rattle.cells.specs.Laws.Basics.{and_split, and-join, or_left, or_right, unrefused}
use Rattle.activity.specs.declared.ActivityDuration.{ActivityDuration}
use Rattle.activity.specs.declared.ResourceTiming.{ResourceTiming}
use Rattle.activity.specs.declared.ResourceTiming.TheVariants.{Nothing, Speed, Duration}
use Rattle.activity.specs.declared.ResourceRequirement.{ResourceRequirement}
use Rattle.activity.specs.declared.Activity.{Activity}
use Rattle.activity.specs.Durations.{untimed, timing_of}
use Rattle.cells.specs.Every.{every}
use Rattle.cells.specs.Laws.Every.{every-at, every_in, every_of}
use Rattle.activity.specs.Check.{release_right, short, timing_short, timing_speed, quantity, quantity_right, quantities_right, usage_right}
use Rattle.activity.specs.Check.{requirements_of, times_right, activity_refusal, held_right, no_requirement}
use Rattle.activity.specs.Lawful.{Short, LawfulTiming, Lawful}

-- the timings of an order in range
abbrev all_short : Activity → Bool
all_short a = every timing_short a.timings

abbrev all_speeds : Activity → Bool
all_speeds a = every timing_speed a.timings

module _ (a : Activity) (ready : ℕ) where
  -- 1: each part of `times_right` by itself
  pub late-ready : 2 ^ 42 < ready → times_right a ready ≡ false
  unfolding times_right
  late-ready h = rw (lt-leb ready (2 ^ 42) h) refl

  pub late-release : release_right a.release ≡ false → times_right a ready ≡ false
  unfolding times_right
  late-release e = rw e (and-false (nat_le ready (2 ^ 42)))

  pub long-base : short a.duration ≡ false → times_right a ready ≡ false
  unfolding times_right
  long-base e = rw (e, and-false (release_right a.release)) (and-false (nat_le ready (2 ^ 42)))

  pub long-timing : all_short a ≡ false → times_right a ready ≡ false
  unfolding times_right
  long-timing e = rw (e, and-false (short a.duration), and-false (release_right a.release)) (and-false (nat_le ready (2 ^ 42)))

  pub times-right : ready ≤ 2 ^ 42 → release_right a.release ≡ true → short a.duration ≡ true → all_short a ≡ true → times_right a ready ≡ true
  unfolding times_right
  times-right h r s t = rw (le-leb ready (2 ^ 42) h, r, s, t) refl

  pub refused-5 : 15 < a.category → 5 ≡ activity_refusal a ready
  unfolding activity_refusal
  refused-5 h = sym (rw (lt-ltb 15 a.category h) refl)

  module _ (g : a.category ≤ 15) where
    pub refused-1 : times_right a ready ≡ false → 1 ≡ activity_refusal a ready
    unfolding activity_refusal
    refused-1 e = sym (rw (le-ltb 15 a.category g, e) refl)

    module _ (t : times_right a ready ≡ true) where
      pub refused-6 : 4 < a.len → 6 ≡ activity_refusal a ready
      unfolding activity_refusal
      refused-6 h = sym (rw (le-ltb 15 a.category g, t, lt-ltb 4 a.len h) refl)

      module _ (l : a.len ≤ 4) where
        pub refused-6-quantity : quantities_right (requirements_of a) ≡ false → 6 ≡ activity_refusal a ready
        unfolding activity_refusal
        refused-6-quantity e = sym (rw (le-ltb 15 a.category g, t, le-ltb 4 a.len l, e) refl)

        module _ (q : quantities_right (requirements_of a) ≡ true) where
          pub refused-3 : every usage_right (requirements_of a) ≡ false → 3 ≡ activity_refusal a ready
          unfolding activity_refusal
          refused-3 e = sym (rw (le-ltb 15 a.category g, t, le-ltb 4 a.len l, q, e) refl)

          pub refused-8 : every usage_right (requirements_of a) ≡ true → all_speeds a ≡ false → 8 ≡ activity_refusal a ready
          unfolding activity_refusal
          refused-8 u e = sym (rw (le-ltb 15 a.category g, t, le-ltb 4 a.len l, q, u, e) refl)

          pub not-refused : every usage_right (requirements_of a) ≡ true → all_speeds a ≡ true → 0 ≡ activity_refusal a ready
          unfolding activity_refusal
          not-refused u e = sym (rw (le-ltb 15 a.category g, t, le-ltb 4 a.len l, q, u, e) refl)

short-says : (d : ActivityDuration) → short d ≡ true → Short d
unfolding short
short-says d e =
    let v = and_split (nat_le d.setup (2 ^ 36)) (nat_le d.process (2 ^ 36) && nat_le d.teardown (2 ^ 36)) e in
    let w = and_split (nat_le d.process (2 ^ 36)) (nat_le d.teardown (2 ^ 36)) v.1 in
    record { setup_range = leb-true d.setup (2 ^ 36) v.0; process_range = leb-true d.process (2 ^ 36) w.0; teardown_range = leb-true d.teardown (2 ^ 36) w.1 }

timing-says : (t : ResourceTiming) → timing_short t ≡ true → timing_speed t ≡ true → LawfulTiming t
timing-says Nothing e k = tt
timing-says (Speed s) e k = k
timing-says (Duration d) e k = short-says d e

usage-says : (q : ResourceRequirement) → usage_right q ≡ true → (1 ≤ q.usage) × (q.usage ≤ 10000)
unfolding usage_right
usage-says q e =
    let v = and_split (nat_le 1 q.usage) (nat_le q.usage 10000) e in
    (leb-true 1 q.usage v.0, leb-true q.usage 10000 v.1)

pub held-says : (held : List ℕ) (count : ℕ) → held_right held count ≡ true → (count ≤ 8) × ((i : ℕ) → i < count → slice_index held i < 16)
unfolding held_right
held-says held count e =
    let v = and_split (nat_le count 8) (every (λ n. leb n 15) (take count held)) e in
    (leb-true count 8 v.0, λ i lt. let h = leb-true (slice_index (take count held) i) 15 (every-at (λ (n : ℕ). leb n 15) (take count held) i 0 refl v.1) in omega (arith, get_or-take count held i 0 lt))

-- An order that is not refused keeps every range of 01.
pub record Accepted (a : Activity) (ready : ℕ) : Type 0 where
  pub category_range : a.category ≤ 15
  pub ready_range : ready ≤ 2 ^ 42
  pub release_range : release_right a.release ≡ true
  pub lawful : Lawful a.duration a.timings
  pub few : a.len ≤ 4
  pub some : (i : ℕ) → i < length (requirements_of a) → 1 ≤ (get_or (requirements_of a) i no_requirement).quantity
  pub total_range : quantity (requirements_of a) ≤ 8
  pub used : (i : ℕ) → i < length (requirements_of a) → (1 ≤ (get_or (requirements_of a) i no_requirement).usage) × ((get_or (requirements_of a) i no_requirement).usage ≤ 10000)

module _ (a : Activity) (ready : ℕ) (e : activity_refusal a ready ≡ 0) where
  -- the tests that were passed, in their order
  record Passed : Type 0 where
    pub category : ltb 15 a.category ≡ false
    pub times : times_right a ready ≡ true
    pub few : ltb 4 a.len ≡ false
    pub quantities : quantities_right (requirements_of a) ≡ true
    usages : every usage_right (requirements_of a) ≡ true
    pub speeds : all_speeds a ≡ true

  passed : Passed
  unfolding activity_refusal
  passed =
      let c8 : ℕ = cond (not (all_speeds a)) 8 0 in
      let c3 : ℕ = cond (not (every usage_right (requirements_of a))) 3 c8 in
      let c6 : ℕ = cond (nat_lt 4 a.len || not (quantities_right (requirements_of a))) 6 c3 in
      let c1 : ℕ = cond (not (times_right a ready)) 1 c6 in
      let p5 = unrefused (nat_lt 15 a.category) 4 c1 e in
      let p1 = unrefused (not (times_right a ready)) 0 c6 p5.1 in
      let p6 = unrefused (nat_lt 4 a.len || not (quantities_right (requirements_of a))) 5 c3 p1.1 in
      let p3 = unrefused (not (every usage_right (requirements_of a))) 2 c8 p6.1 in
      let p8 = unrefused (not (all_speeds a)) 7 0 p3.1 in
      let q6 = or_right (nat_lt 4 a.len) (not (quantities_right (requirements_of a))) p6.0 in
      record { category = p5.0; times = not-false (times_right a ready) p1.0; few = or_left (nat_lt 4 a.len) (not (quantities_right (requirements_of a))) p6.0; quantities = not-false (quantities_right (requirements_of a)) q6; usages = not-false (every usage_right (requirements_of a)) p3.0; speeds = not-false (all_speeds a) p8.0 }

  pub accepted : Accepted a ready
  unfolding times_right quantities_right
  accepted =
      let p = passed in
      let t1 = and_split (nat_le ready (2 ^ 42)) (release_right a.release && (short a.duration && all_short a)) p.times in
      let t2 = and_split (release_right a.release) (short a.duration && all_short a) t1.1 in
      let t3 = and_split (short a.duration) (all_short a) t2.1 in
      let q = and_split (every quantity_right (requirements_of a)) (nat_le (quantity (requirements_of a)) 8) p.quantities in
      record {
        category_range = ltb-false 15 a.category p.category;
        ready_range = leb-true ready (2 ^ 42) t1.0;
        release_range = t2.0;
        lawful = record {
          base_short = short-says a.duration t3.0;
          each = λ n. timing-says (timing_of a.timings n) (every-at timing_short a.timings n untimed refl t3.1) (every-at timing_speed a.timings n untimed refl p.speeds);
        };
        few = ltb-false 4 a.len p.few;
        some = λ i h. leb-true 1 (get_or (requirements_of a) i no_requirement).quantity (every_in quantity_right (requirements_of a) i no_requirement h q.0);
        total_range = leb-true (quantity (requirements_of a)) 8 q.1;
        used = λ i h. usage-says (slice_index_or (requirements_of a) i no_requirement) (every_in usage_right (requirements_of a) i no_requirement h p.usages);
      }

-- The other way round: an order that keeps every range is not refused.
short-is : (d : ActivityDuration) → Short d → short d ≡ true
unfolding short
short-is d s = rw (le-leb d.setup (2 ^ 36) s.setup_range, le-leb d.process (2 ^ 36) s.process_range, le-leb d.teardown (2 ^ 36) s.teardown_range) refl

timing-is : (t : ResourceTiming) → LawfulTiming t → (timing_short t ≡ true) × (timing_speed t ≡ true)
timing-is Nothing l = (refl, refl)
timing-is (Speed s) l = (refl, l)
timing-is (Duration d) l = (short-is d l, refl)

usage-is : (q : ResourceRequirement) → (1 ≤ q.usage) × (q.usage ≤ 10000) → usage_right q ≡ true
unfolding usage_right
usage-is q h = rw (le-leb 1 q.usage h.0, le-leb q.usage 10000 h.1) refl

pub accepted-is : (a : Activity) (ready : ℕ) → Accepted a ready → activity_refusal a ready ≡ 0
unfolding quantities_right
accepted-is a ready c =
    let t = every_of timing_short a.timings untimed (λ i h. (timing-is (timing_of a.timings i) (c.lawful.each i)).0) in
    let s = every_of timing_speed a.timings untimed (λ i h. (timing-is (timing_of a.timings i) (c.lawful.each i)).1) in
    let q = every_of quantity_right (requirements_of a) no_requirement (λ i h. le-leb 1 (get_or (requirements_of a) i no_requirement).quantity (c.some i h)) in
    let u = every_of usage_right (requirements_of a) no_requirement (λ i h. usage-is (slice_index_or (requirements_of a) i no_requirement) (c.used i h)) in
    let r = times-right a ready c.ready_range c.release_range (short-is a.duration c.lawful.base_short) t in
    let n = and-join (every quantity_right (requirements_of a)) (nat_le (quantity (requirements_of a)) 8) q (le-leb (quantity (requirements_of a)) 8 c.total_range) in
    sym (not-refused a ready c.category_range r c.few n u s)

-- an order that is not refused asks for at least one of each
pub some-of-each : (a : Activity) (ready : ℕ) (q : ResourceRequirement) (qs : List ResourceRequirement) → requirements_of a ≡ q ∷ qs → activity_refusal a ready ≡ 0 → 1 ≤ q.quantity
some-of-each a ready q qs asks h = subst (λ (rs : List ResourceRequirement). 0 < length rs → 1 ≤ (get_or rs 0 no_requirement).quantity) asks ((accepted a ready h).some 0) (omega arith)
