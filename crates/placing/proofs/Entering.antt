-- The entries of a choice are for resources on the board, with a unit or more each.
use Rattle.std.specs.Prelude.{◌≡◌, ℕ, ◌<◌, ◌≤◌, true, List, [], ◌∷◌, map, length, get_or, take}
use mathlib.Core.Path.{sym, subst}
use native.Mathlib.Omega.{arith}
use lib.Seq.{get_or-take, length-take-le}
use Rattle.activity.specs.declared.ResourceRequirement.{ResourceRequirement}
use Rattle.activity.specs.declared.Activity.{Activity}
use Rattle.activity.specs.Check.{requirements_of, activity_refusal}
use Rattle.board.specs.declared.Board.{Board}
use Rattle.board.specs.Resources.{on_board}
use Rattle.board.specs.Valid.{valid}
use Rattle.scheduler.specs.declared.Entry.{Entry}
use Rattle.scheduler.specs.declared.Selection.{Selection}
use Rattle.scheduler.specs.Choosing.{Held, chosen, choosing}
use Rattle.scheduler.specs.Fitting.{entry_of, held_entries, duration_together, companion_entries, join_each, numbers_of, all_companions, entries_of}
use Rattle.scheduler.specs.Entries.{companion_entry, no_entry}
use Rattle.scheduler.specs.Selections.{no_selection, held_of, held_to, OnPlaces}
use Rattle.cells.specs.Every.{Each}
use Rattle.cells.specs.Laws.Each.{each_all, each_append, each-in-map}
use Rattle.cells.specs.Laws.Arrays.{each_at, each-cells}
use Rattle.scheduler.specs.Plain.{Chooses, enough, held_at}
use Rattle.scheduler.proofs.Theorems.Meaning.{choosing-means}
use Rattle.activity.specs.Laws.Judging.{some-of-each}
use Rattle.scheduler.specs.Laws.Reported.{held-at-whole, entries-on}
use Rattle.place_fit.specs.Closing.{EntriesOn}

module _ (a : Activity) where
  entries-some : (hs : List Held) → Each (λ h. 1 ≤ h.usage) hs → Each (λ e. 1 ≤ e.units) (entries_of a hs)
  unfolding entries_of companion_entries
  entries-some hs z =
      let J = join_each (numbers_of hs) [] (all_companions hs) in
      each_append (λ e. 1 ≤ e.units) (held_entries a.category (duration_together a hs).setup hs) (companion_entries hs)
      (each-in-map (λ e. 1 ≤ e.units) (entry_of a.category (duration_together a hs).setup) hs z)
      (each-in-map (λ e. 1 ≤ e.units) companion_entry J (each_all (λ c. 1 ≤ 1) J (λ c. omega arith)))

held-usage : (b : Board) (hs : List Selection) → Each (λ h. 1 ≤ h.usage) hs → Each {A = Held} (λ h. 1 ≤ h.usage) (map (held_of b) hs)
unfolding held_of
held-usage b hs z = each-in-map (λ h. 1 ≤ h.usage) (held_of b) hs z

module _ (b : Board) (v : valid b ≡ true) (a : Activity) (ready t : ℕ) (lawful : activity_refusal a ready ≡ 0) (q : ResourceRequirement) (qs : List ResourceRequirement) (asks : requirements_of a ≡ q ∷ qs) where
  all-on : (hs : List Held) → choosing b a ready ≡ chosen t hs → Each (λ e. on_board b e.number ≡ true) (entries_of a hs)
  all-on hs e =
      let w : Chooses (enough b a ready (q ∷ qs)) (held_at b a ready (q ∷ qs)) ready (chosen t hs) = subst (Chooses (enough b a ready (q ∷ qs)) (held_at b a ready (q ∷ qs)) ready) e (choosing-means b v a ready q qs asks (some-of-each a ready q qs asks lawful)) in
      subst (λ (l : List Held). Each (λ e. on_board b e.number ≡ true) (entries_of a l)) (sym w.1) (entries-on b a (held_at b a ready (q ∷ qs) t) (held-at-whole b a ready v (q ∷ qs) t))

  module _ (hs : List Selection) (m : ℕ) (places : OnPlaces b hs m) (few : m ≤ length hs) (e : choosing b a ready ≡ chosen t (held_to b hs m)) (es : List Entry) (n : ℕ) (l : n ≤ 24) (long : length es ≡ 24) (f : take n es ≡ entries_of a (held_to b hs m)) where
    on : (k : ℕ) → k < n → on_board b (get_or es k no_entry).number ≡ true
    on k i =
        let z : length (take n es) ≡ n = length-take-le n es (omega (arith, long)) in
        let w = subst (Each (λ y. on_board b y.number ≡ true)) (sym f) (all-on (held_to b hs m) e) in
        rw (get_or-take n es k no_entry i) at (each_at (λ y. on_board b y.number ≡ true) no_entry (take n es) w k (omega (arith, z)))

    units : (k : ℕ) → k < n → 1 ≤ (get_or es k no_entry).units
    units k i =
        let z : length (take n es) ≡ n = length-take-le n es (omega (arith, long)) in
        let w : Each (λ y. 1 ≤ y.units) (take n es) = subst (Each (λ y. 1 ≤ y.units)) (sym f) (entries-some a (held_to b hs m) (held-usage b (take m hs) (each-cells (λ h. 1 ≤ h.usage) no_selection m hs (λ k l o. places.some k l)))) in
        rw (get_or-take n es k no_entry i) at (each_at (λ y. 1 ≤ y.units) no_entry (take n es) w k (omega (arith, z)))

    pub entered : EntriesOn b es n
    entered = record { few = l; long = long; each = λ k i. (on k i, units k i) }

-- the first n of those held stand on the board by themselves
pub front-places : (b : Board) (hs : List Selection) (n : ℕ) → n ≤ length hs → OnPlaces b hs n → OnPlaces b (take n hs) (length (take n hs))
front-places b hs n l o = record { stands = λ k m. rw (same k m) (o.stands k (less k m)); some = λ k m. rw (same k m) (o.some k (less k m)) }
  where
    less : (k : ℕ) → k < length (take n hs) → k < n
    less k m = omega (arith, length-take-le n hs l)

    same : (k : ℕ) → k < length (take n hs) → get_or (take n hs) k no_selection ≡ get_or hs k no_selection
    same k m = get_or-take n hs k no_selection (less k m)
