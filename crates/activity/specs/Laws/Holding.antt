-- The resources held, one by one: the product of their speeds, and the own durations that lead.
use Rattle.std.specs.Prelude.{◌≡◌, ℕ, suc, ◌+◌, ◌<◌, ◌≤◌, Bool, true, false, cond, T, List, [], ◌∷◌, length, drop, nat_lt, slice_index, Option, Some, None}
use Rattle.std.proofs.Math.Path.{refl, sym, ap, subst}
use Rattle.std.proofs.Common.{◌∙◌, add-one}
use native.Mathlib.Omega.{arith}
use Rattle.std.proofs.Math.ListN.{drop_of_length-le}
use Rattle.std.proofs.Math.Seq.{drop-cons}
use Rattle.std.specs.Prelude.{Float}
use Rattle.activity.specs.declared.ActivityDuration.{ActivityDuration}
use Rattle.activity.specs.declared.ResourceTiming.{ResourceTiming}
use Rattle.activity.specs.declared.ResourceTiming.TheVariants.{Nothing, Speed, Duration}
use Rattle.activity_speeds.specs.Speeds.{one, process_at, WithinPower}
use Rattle.activity.specs.Durations.{timing_of, held_timings, total, Leading, nobody, owned, greater, greatest, times, product, settled, duration_on}
use Rattle.activity.specs.Lawful.{LawfulTiming, LawfulLead, leading_of}
use Rattle.activity_speeds.proofs.Bounds.{within_more, within-mul, speed-within, one-within}

-- one timing more: the product stays from 4 ^ -k to 4 ^ k, and what leads stays short
times-within : (k : ℕ) (p : Float) (t : ResourceTiming) → k + 1 ≤ 26 → WithinPower k p → LawfulTiming t → WithinPower (k + 1) (times p t)
times-within k p Nothing h w l = within_more k (k + 1) p (omega arith) w
times-within k p (Speed s) h w l = within-mul k 1 p s h w (speed-within s (subst T (sym l) tt))
times-within k p (Duration d) h w l = within_more k (k + 1) p (omega arith) w

greater-lawful : (f : Leading) (t : ResourceTiming) → LawfulLead f → LawfulTiming t → LawfulLead (greater f t)
greater-lawful f Nothing h l = h
greater-lawful f (Speed s) h l = h
greater-lawful nobody (Duration d) h l = l
greater-lawful (owned f) (Duration d) h l = go (nat_lt (total f) (total d))
  where
    go : (b : Bool) → LawfulLead (cond b (owned d) (owned f))
    go true = l
    go false = h

-- The loop: what is left of the held resources leads on from here to the end that all of them lead to.
module _ (timings : List ResourceTiming) (all : List ℕ) where
  pub record Walk (speed : Float) (lead : Leading) (i : ℕ) : Type 0 where
    multiplied : product speed (held_timings timings (drop i all)) ≡ product one (held_timings timings all)
    pub led : greatest lead (held_timings timings (drop i all)) ≡ greatest nobody (held_timings timings all)
    pub range : WithinPower i speed
    pub lawful : LawfulLead lead

  pub walk_start : Walk one nobody 0
  walk_start = record { multiplied = refl; led = refl; range = one-within; lawful = tt }

  pub walk_step : (speed next : Float) (fixed lead : Leading) (i : ℕ) → Walk speed fixed i → i < length all → i + 1 ≤ 26
      → LawfulTiming (timing_of timings (slice_index all i))
      → next ≡ times speed (timing_of timings (slice_index all i)) → lead ≡ greater fixed (timing_of timings (slice_index all i)) → Walk next lead (i + 1)
  unfolding product greatest
  walk_step speed next fixed lead i w lt few l p q =
      let t = timing_of timings (slice_index all i) in
      let e : drop i all ≡ slice_index all i ∷ drop (i + 1) all = rw (add-one, drop-cons all i 0 lt) refl in
      rw (p, q)
      (record {
        multiplied = sym (ap (λ (xs : List ℕ). product speed (held_timings timings xs)) e) ∙ w.multiplied;
        led = sym (ap (λ (xs : List ℕ). greatest fixed (held_timings timings xs)) e) ∙ w.led;
        range = times-within i speed t few w.range l;
        lawful = greater-lawful fixed t w.lawful l;
      })

  walk_end : (speed : Float) (fixed : Leading) (i : ℕ) → Walk speed fixed i → length all ≤ i
      → (product one (held_timings timings all) ≡ speed) × (greatest nobody (held_timings timings all) ≡ fixed)
  unfolding product greatest
  walk_end speed fixed i w le =
      let e : drop i all ≡ [] = drop_of_length-le all {i = i} le in (
        sym w.multiplied ∙ ap (λ (xs : List ℕ). product speed (held_timings timings xs)) e,
        sym w.led ∙ ap (λ (xs : List ℕ). greatest fixed (held_timings timings xs)) e,
      )

  -- at the end own durations lead, or there are none
  pub walk-own : (base d : ActivityDuration) (speed : Float) (fixed : Option ActivityDuration) (i : ℕ) → Walk speed (leading_of fixed) i → length all ≤ i
      → fixed ≡ Some d → d ≡ duration_on base timings all
  unfolding duration_on
  walk-own base d speed fixed i w le e = sym (ap (settled base (product one (held_timings timings all))) ((walk_end speed (leading_of fixed) i w le).1 ∙ ap leading_of e))

  pub walk-base : (base : ActivityDuration) (r : ℕ) (speed : Float) (fixed : Option ActivityDuration) (i : ℕ) → Walk speed (leading_of fixed) i → length all ≤ i
      → fixed ≡ None → r ≡ process_at base.process speed
      → record { setup = base.setup; process = r; teardown = base.teardown } ≡ duration_on base timings all
  unfolding duration_on
  walk-base base r speed fixed i w le e k =
      let z = walk_end speed (leading_of fixed) i w le in
      rw k (sym (ap (settled base (product one (held_timings timings all))) (z.1 ∙ ap leading_of e) ∙ ap (λ (p : Float). settled base p nobody) z.0))

-- All of them: a product of n speeds is from 4 ^ -n to 4 ^ n, and what leads is short.
module _ (timings : List ResourceTiming) (each : (n : ℕ) → LawfulTiming (timing_of timings n)) where
  pub product-within : (held : List ℕ) (k : ℕ) (p : Float) → k + length held ≤ 26 → WithinPower k p → WithinPower (k + length held) (product p (held_timings timings held))
  unfolding product
  product-within [] k p h w = within_more k (k + 0) p (omega arith) w
  product-within (x ∷ held) k p h w =
      let e : k + 1 + length held ≡ k + suc (length held) = omega arith in
      subst (λ (n : ℕ). WithinPower n (product (times p (timing_of timings x)) (held_timings timings held))) e
      (product-within held (k + 1) (times p (timing_of timings x)) (omega arith) (times-within k p (timing_of timings x) (omega arith) w (each x)))

  pub greatest-lawful : (held : List ℕ) (f : Leading) → LawfulLead f → LawfulLead (greatest f (held_timings timings held))
  unfolding greatest
  greatest-lawful [] f h = h
  greatest-lawful (x ∷ held) f h = greatest-lawful held (greater f (timing_of timings x)) (greater-lawful f (timing_of timings x) h (each x))
