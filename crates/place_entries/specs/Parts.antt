-- What the code takes from the plans for the entries of those held.
use Rattle.std.specs.Prelude.{◌≡◌, ℕ, ◌<◌, ◌≤◌, true, List, None, map, unwrap_or, length, get_or, slice_index, slice_index_or}
use Rattle.activity.specs.declared.Activity.{Activity}
use Rattle.board.specs.declared.Board.{Board}
use Rattle.board.specs.Resources.{resource_at}
use Rattle.board.specs.Setups.{setup_on}
use Rattle.board.specs.Valid.{valid}
use Rattle.scheduler.specs.declared.Entry.{Entry}
use Rattle.scheduler.specs.declared.Selection.{Selection}
use Rattle.scheduler.specs.Choosing.{Held}
use Rattle.scheduler.specs.Fitting.{all_companions, entries_of, span_together}
use Rattle.cells.specs.Every.{Each}
use Rattle.scheduler.specs.Selections.{no_selection, held_of, OnPlaces}
use Rattle.place_plans.specs.declared.Plan.{Plan}
use Rattle.place_plans.specs.Plans.{Planned}
use Rattle.place_entries.specs.declared.Parts.{Parts}
use Rattle.place_entries.specs.declared.Spanned.{Spanned}
use Rattle.scheduler.specs.Entries.{held_entry, no_entry}
use Rattle.place_entries.specs.Cells.{Small, first_entries, numbers_in}

-- the setup kept for the k-th held; without a matrix it is `own`
abbrev pub kept_setup : Parts → ℕ → ℕ → ℕ
kept_setup p own k = unwrap_or (slice_index_or p.setups k None) own

-- the entry of the k-th held
abbrev pub setup_at : Parts → List Selection → ℕ → ℕ → Entry
setup_at p hs own k = held_entry (slice_index p.numbers k) (kept_setup p own k) (get_or hs k no_selection).usage

-- those that they name
abbrev pub all_held : Board → List Selection → List Held
all_held b hs = map (held_of b) hs

-- those held stand on a board that keeps the rules, and their plans are known
pub record PlansKnown (b : Board) (a : Activity) (ready : ℕ) (plans : List Plan) (hs : List Selection) : Type 0 where
  pub right : valid b ≡ true
  pub planned : Planned b a ready b.len plans
  pub places : OnPlaces b hs (length hs)

-- they stand so on some board, from some instant on
abbrev pub PlansOfSomeBoard : Activity → List Plan → List Selection → Type 0
PlansOfSomeBoard a plans hs = (b : Board) × (ready : ℕ) × PlansKnown b a ready plans hs

-- what was taken is the board's
pub record Parted (b : Board) (category : ℕ) (hs : List Selection) (p : Parts) : Type 0 where
  pub held : length hs ≤ 8
  pub long : length p.numbers ≡ 8
  pub numbers : (k : ℕ) → k < length hs → slice_index p.numbers k ≡ (resource_at b (get_or hs k no_selection).place).number
  pub setups : (k : ℕ) → k < length hs → (own : ℕ) → kept_setup p own k ≡ setup_on (resource_at b (get_or hs k no_selection).place) category own
  pub companions : numbers_in p.companions ≡ all_companions (all_held b hs)
  pub few : p.companions.len ≤ 32
  pub small : Each Small (numbers_in p.companions)

-- what was taken from the plans is that of any board, order and instant that they are of
abbrev pub PartsOf : List Plan → List Selection → Parts → Type 0
PartsOf plans hs p = (b : Board) (a : Activity) (ready : ℕ) → PlansKnown b a ready plans hs → Parted b a.category hs p

-- the first entries are those of the ones held
abbrev pub EntriesHeld : Parts → List Selection → ℕ → List Entry → Type 0
EntriesHeld p hs own es = (k : ℕ) → k < length hs → slice_index_or es k no_entry ≡ setup_at p hs own k

-- the entries and the span are those of all held together
abbrev pub HeldTogether : Board → Activity → List Selection → Spanned → Type 0
HeldTogether b a hs r = (first_entries r.entries ≡ entries_of a (all_held b hs)) × (r.span ≡ span_together a (all_held b hs))
