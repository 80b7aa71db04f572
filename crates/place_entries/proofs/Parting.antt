-- What is taken from the board for those held, one held more; and what it amounts to.
use Rattle.std.specs.Prelude.{◌≡◌, ℕ, ◌+◌, ◌^◌, ◌<◌, ◌≤◌, Bool, true, false, cond, List, [], ◌∷◌, ◌++◌, map, length, get_or, take, unwrap_or, Option}
use Rattle.std.specs.Bool.{then_some}
use mathlib.Core.Path.{refl, sym, ap, ◌∙◌}
use mathlib.Core.List.{append_assoc, append-nil, map-append, map-map}
use native.Mathlib.Omega.{arith}
use lib.ListN.{length-take}
use lib.Seq.{length-take-le, take-length, get_or-take}
use Rattle.calendar.specs.Laws.Searching.{greatest-most}
use Rattle.cells.specs.Laws.Basics.{take_next}
use Rattle.activity.specs.declared.ActivityDuration.{ActivityDuration}
use Rattle.activity.specs.declared.Activity.{Activity}
use Rattle.activity.specs.Durations.{duration_on}
use Rattle.activity.specs.Lawful.{Lawful}
use Rattle.activity.specs.Theorems.Meaning.{Bounded, duration-bounded}
use Rattle.board.specs.declared.TransitionMatrix.{TransitionMatrix}
use Rattle.board.specs.declared.Resource.{Resource}
use Rattle.board.specs.declared.Board.{Board}
use Rattle.board.specs.Resources.{resource_at}
use Rattle.board.specs.Setups.{setup_ms, matrix_setup}
use Rattle.board.specs.Valid.{valid}
use Rattle.board.specs.Theorems.Meaning.{resource-of, setup-small}
use Rattle.scheduler.specs.declared.Entry.{Entry}
use Rattle.scheduler.specs.declared.Selection.{Selection}
use Rattle.scheduler.specs.Alone.{companions_of, span_of}
use Rattle.scheduler.specs.Choosing.{Held}
use Rattle.scheduler.specs.Fitting.{number_of, numbers_of, duration_together, entry_of, held_entries, greatest_setup, join_each, all_companions, companion_entries, entries_of, span_together}
use Rattle.scheduler.specs.Entries.{companion_entry, no_entry}
use Rattle.scheduler.specs.Selections.{no_selection, held_of, held_to, OnPlaces}
use Rattle.place_entries.specs.declared.Parts.{Parts}
use Rattle.place_entries.specs.Cells.{entry_number, Small}
use Rattle.place_entries.specs.Parts.{setup_at, all_held, PlansKnown, Parted}
use Rattle.place_plans.specs.declared.Plan.{Plan}
use Rattle.place_plans.specs.Plans.{no_plan, plan_with}
use Rattle.cells.specs.Laws.Arrays.{cells-map, each-cells}
use Rattle.cells.specs.Every.{Each}

companions-last : (hs : List Held) (h : Held) → all_companions (hs ++ (h ∷ [])) ≡ all_companions hs ++ companions_of h.resource
unfolding all_companions
companions-last [] h = append-nil (companions_of h.resource)
companions-last (x ∷ hs) h = ap (λ (cs : List ℕ). companions_of x.resource ++ cs) (companions-last hs h) ∙ sym (append_assoc (companions_of x.resource) (all_companions hs) (companions_of h.resource))

-- a setup kept apart from the order's own
pub setup-kept : (m : TransitionMatrix) (last : Option ℕ) (category own : ℕ) → unwrap_or (then_some m.present (setup_ms m last category 0)) own ≡ setup_ms m last category own
unfolding setup_ms
setup-kept m last category own = go m.present
  where
    go : (p : Bool) → unwrap_or (then_some p (cond p (matrix_setup m last category) 0)) own ≡ cond p (matrix_setup m last category) own
    go true = refl
    go false = refl

-- cells filled from a whole list
whole-map : {A B : Type 0} (f : A → B) (d : A) (e : B) (xs : List A) (ys : List B) → length xs ≤ length ys → ((k : ℕ) → k < length xs → get_or ys k e ≡ f (get_or xs k d)) → take (length xs) ys ≡ map f xs
whole-map f d e xs ys m h = cells-map f d e (length xs) xs ys (omega arith) m h ∙ ap (map f) (take-length xs)

-- the companions in the plan of one held
pub plan-companions : (b : Board) (a : Activity) (ready : ℕ) (plans : List Plan) (hs : List Selection) → PlansKnown b a ready plans hs → (i : ℕ) → i < length hs
    → ((get_or plans (get_or hs i no_selection).place no_plan).count ≤ 4) × Each Small (take (get_or plans (get_or hs i no_selection).place no_plan).count (get_or plans (get_or hs i no_selection).place no_plan).companions)
    × (length (take (get_or plans (get_or hs i no_selection).place no_plan).count (get_or plans (get_or hs i no_selection).place no_plan).companions) ≤ 4)
unfolding plan_with
plan-companions b a ready plans hs t i l =
    let r = resource-of b t.right _ (t.places.stands i l) in
    rw (t.planned.so _ (t.places.stands i l)) (r.few, each-cells Small 0 _ _ (λ k m n. omega (arith, r.companions k m)), omega (arith, r.few, length-take {A = ℕ}))

module _ (b : Board) (hs : List Selection) where
  abbrev on : ℕ → Resource
  on k = resource_at b (get_or hs k no_selection).place

  pub companions-next : (i : ℕ) → i < length hs → all_companions (held_to b hs (i + 1)) ≡ all_companions (held_to b hs i) ++ companions_of (on i)
  unfolding held_of
  companions-next i l =
      ap (λ (xs : List Selection). all_companions (map (held_of b) xs)) (take_next hs i no_selection l)
      ∙ ap all_companions (map-append (held_of b) (take i hs) (get_or hs i no_selection ∷ []))
      ∙ companions-last (held_to b hs i) (held_of b (get_or hs i no_selection))

  numbers-are : (ns : List ℕ) → length hs ≤ length ns → ((k : ℕ) → k < length hs → get_or ns k 0 ≡ (on k).number) → take (length hs) ns ≡ numbers_of (all_held b hs)
  unfolding held_of
  numbers-are ns m h = whole-map (λ x. (resource_at b x.place).number) no_selection 0 hs ns m h ∙ sym (map-map number_of (held_of b) hs)

  entries-are : (category own : ℕ) (p : Parts) (es : List Entry) → length hs ≤ length es → Parted b category hs p → ((k : ℕ) → k < length hs → get_or es k no_entry ≡ setup_at p hs own k) → take (length hs) es ≡ held_entries category own (all_held b hs)
  unfolding held_of
  entries-are category own p es m d h =
      whole-map (λ x. entry_of category own (held_of b x)) no_selection no_entry hs es m (λ k i. h k i ∙ rw (d.numbers k i, d.setups k i own) refl)
      ∙ sym (map-map (entry_of category own) (held_of b) hs)

-- the entries and the span of all held together
pub record Together (b : Board) (a : Activity) (hs : List Selection) (p : Parts) (d : ActivityDuration) (es : List Entry) : Type 0 where
  pub duration : Bounded d
  pub setups : greatest_setup (take (length hs) es) ≤ 2 ^ 36
  pub span : greatest_setup (take (length hs) es) + d.process + d.teardown ≡ span_together a (all_held b hs)
  pub whole : take (length hs) es ++ map companion_entry (join_each (map entry_number (take (length hs) es)) [] (take p.companions.len p.companions.numbers)) ≡ entries_of a (all_held b hs)

module _ (b : Board) (a : Activity) (hs : List Selection) (p : Parts) (d : ActivityDuration) (es : List Entry) (v : valid b ≡ true) (w : Lawful a.duration a.timings) (c : a.category ≤ 15) (wide : length es ≡ 24) (on-places : OnPlaces b hs (length hs)) (parts : Parted b a.category hs p) (e : d ≡ duration_on a.duration a.timings (take (length hs) p.numbers)) (f : (k : ℕ) → k < length hs → get_or es k no_entry ≡ setup_at p hs d.setup k) where
  abbrev n : ℕ
  n = length hs

  few : n ≤ 8
  few = parts.held

  together : d ≡ duration_together a (all_held b hs)
  unfolding duration_together
  together = e ∙ ap (duration_on a.duration a.timings) (numbers-are b hs p.numbers (omega (arith, parts.long, few)) parts.numbers)

  entries : take n es ≡ held_entries a.category (duration_together a (all_held b hs)).setup (all_held b hs)
  entries = rw (← together) (entries-are b hs a.category d.setup p es (omega (arith, wide, few)) parts f)

  duration-small : Bounded d
  duration-small = rw e (duration-bounded a.duration a.timings (take n p.numbers) w (omega (arith, few, length-take-le n p.numbers (omega (arith, parts.long, few)))))

  setups-small : greatest_setup (take n es) ≤ 2 ^ 36
  unfolding greatest_setup
  setups-small = greatest-most (λ (x : Entry). x.setup) no_entry (take n es) (2 ^ 36) (λ k l. let m : k < n = omega (arith, length-take n es) in rw (get_or-take n es k no_entry m) (each k m))
    where
      each : (k : ℕ) → k < n → (get_or es k no_entry).setup ≤ 2 ^ 36
      each k l =
          let r = resource-of b v (get_or hs k no_selection).place (on-places.stands k l) in
          rw (f k l, parts.setups k l d.setup) (setup-small (resource_at b (get_or hs k no_selection).place).matrix (resource_at b (get_or hs k no_selection).place).last a.category d.setup r.matrix r.last c duration-small.setup_range)

  span-is : greatest_setup (take n es) + d.process + d.teardown ≡ span_together a (all_held b hs)
  unfolding span_together span_of
  span-is = rw (entries, together) refl

  numbers : map entry_number (take n es) ≡ numbers_of (all_held b hs)
  numbers = ap (map entry_number) entries ∙ map-map entry_number (entry_of a.category (duration_together a (all_held b hs)).setup) (all_held b hs)

  entries-whole : take n es ++ map companion_entry (join_each (map entry_number (take n es)) [] (take p.companions.len p.companions.numbers)) ≡ entries_of a (all_held b hs)
  unfolding entries_of companion_entries
  entries-whole = rw (numbers, entries, parts.companions) refl

  pub held-together : Together b a hs p d es
  held-together = record { duration = duration-small; setups = setups-small; span = span-is; whole = entries-whole }
