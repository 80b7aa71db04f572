-- The resources of a placement are on the board, so that their diaries keep the rules.
use Rattle.std.specs.Prelude.{◌≡◌, Bool, ◌||◌, cond, ℕ, take}
use Rattle.std.proofs.Math.Path.{refl, ap}
use Rattle.std.proofs.Math.Bool.{true, false}
use mathlib.Core.List.{List, [], ◌∷◌, ◌++◌, map}
use Rattle.cells.specs.Laws.Basics.{and_split}
use Rattle.activity.specs.declared.ResourceRequirement.{ResourceRequirement}
use Rattle.activity.specs.declared.Activity.{Activity}
use Rattle.activity.specs.Serving.{serves}
use Rattle.cells.specs.Every.{every, Each, each_end, each_on}
use Rattle.board.specs.declared.Resource.{Resource}
use Rattle.board.specs.declared.Board.{Board}
use Rattle.board.specs.Resources.{no_resource, resources_of, on_board}
use Rattle.calendar.specs.Search.{is_at}
use Rattle.board.specs.Valid as board
use Rattle.board.specs.Theorems.Meaning.{lookup-is}
use Rattle.scheduler.specs.Alone.{companions_of}
use Rattle.scheduler.specs.Choosing.{sort, Held, held_for, hold_first}
use Rattle.scheduler.specs.Fitting.{numbers_of, duration_together, entry_of, held_entries, among, join_each}
use Rattle.scheduler.specs.Entries.{companion_entry}
use Rattle.scheduler.specs.Fitting.{all_companions, companion_entries, entries_of, shares_of}
use Rattle.scheduler.specs.Plain.{starts_there, candidate_at, startable, held_at}
use Rattle.cells.specs.Laws.Each.{each_append, each_take, each-every, each_weaken, each-in-map}
use Rattle.cells.specs.Laws.Arrays.{each-cells}
use Rattle.scheduler.specs.Laws.Together.{Sound}
use Rattle.scheduler.specs.Laws.Ranking.{each-sort}
use Rattle.scheduler.specs.Laws.Ruled.{entries-valid}

module _ (b : Board) where
  -- a resource on the board whose companions are
  pub record Whole (r : Resource) : Type 0 where
    pub itself : on_board b r.number ≡ true
    pub companions : every (on_board b) (companions_of r) ≡ true

  module _ (a : Activity) (ready : ℕ) where
    startable-whole : (q : ResourceRequirement) (t : ℕ) (rs : List Resource) → Each (λ r. on_board b r.number ≡ true) rs
        → Each (λ c. Whole c.resource) (startable b a ready q t rs)
    unfolding startable starts_there
    startable-whole q t [] each_end = each_end
    startable-whole q t (r ∷ rs) (each_on o os) = go (starts_there b a ready q r t) refl (startable-whole q t rs os)
      where
        go : (p : Bool) → starts_there b a ready q r t ≡ p → Each (λ c. Whole c.resource) (startable b a ready q t rs)
            → Each (λ c. Whole c.resource) (cond p (candidate_at a t r ∷ startable b a ready q t rs) (startable b a ready q t rs))
        go true e i = each_on (record { itself = o; companions = (and_split (every (on_board b) (companions_of r)) _ (and_split (serves q r.number r.kind r.skills) _ e).1).0 }) i
        go false e i = i

    module _ (v : board.valid b ≡ true) where
      on-board : Each (λ r. on_board b r.number ≡ true) (resources_of b)
      unfolding is_at
      on-board = each-cells (λ r. on_board b r.number ≡ true) no_resource b.len b.resources (λ i l m. ap is_at (lookup-is b v i l))

      pub held-at-whole : (qs : List ResourceRequirement) (t : ℕ) → Each (λ h. Whole h.resource) (held_at b a ready qs t)
      unfolding held_at hold_first
      held-at-whole [] t = each_end
      held-at-whole (q ∷ qs) t =
          let cs = startable b a ready q t (resources_of b) in
          each_append {A = Held} (λ h. Whole h.resource) (hold_first q (sort cs)) (held_at b a ready qs t)
          (each-in-map (λ h. Whole h.resource) (held_for q) (take q.quantity (sort cs)) (each_take (λ c. Whole c.resource) q.quantity (sort cs) (each-sort (λ c. Whole c.resource) [] cs each_end (startable-whole q t (resources_of b) on-board))))
          (held-at-whole qs t)

  abbrev On : ℕ → Type 0
  On n = on_board b n ≡ true

  companions-on : (hs : List Held) → Each (λ h. Whole h.resource) hs → Each On (all_companions hs)
  unfolding all_companions
  companions-on [] each_end = each_end
  companions-on (h ∷ hs) (each_on p z) = each_append On (companions_of h.resource) (all_companions hs) (each-every (on_board b) (companions_of h.resource) p.companions) (companions-on hs z)

  join-on : (held joined cs : List ℕ) → Each On joined → Each On cs → Each On (join_each held joined cs)
  unfolding join_each
  join-on held joined [] j each_end = j
  join-on held joined (c ∷ cs) j (each_on p z) = go (among c held || among c joined) (join-on held joined cs j z) (join-on held (joined ++ (c ∷ [])) cs (each_append On joined (c ∷ []) j (each_on p each_end)) z)
    where
      go : (q : Bool) → Each On (join_each held joined cs) → Each On (join_each held (joined ++ (c ∷ [])) cs) → Each On (join_each held (cond q joined (joined ++ (c ∷ []))) cs)
      go true x y = x
      go false x y = y

  -- the entries are on the board
  pub entries-on : (a : Activity) (hs : List Held) → Each (λ h. Whole h.resource) hs → Each (λ e. On e.number) (entries_of a hs)
  unfolding entries_of companion_entries
  entries-on a hs z =
      let J = join_each (numbers_of hs) [] (all_companions hs) in
      each_append (λ e. On e.number) (held_entries a.category (duration_together a hs).setup hs) (map companion_entry J)
      (each-in-map (λ e. On e.number) (entry_of a.category (duration_together a hs).setup) hs (each_weaken (λ h. Whole h.resource) (λ h. On h.resource.number) hs (λ h w. w.itself) z))
      (each-in-map (λ e. On e.number) companion_entry J (join-on (numbers_of hs) [] (all_companions hs) each_end (companions-on hs z)))

  -- and their diaries keep the rules
  pub entries-sound : (v : board.valid b ≡ true) (a : Activity) (hs : List Held) → Each (λ h. Whole h.resource) hs → Sound (shares_of b (entries_of a hs))
  entries-sound v a hs z = entries-valid b v (entries_of a hs) (entries-on a hs z)
