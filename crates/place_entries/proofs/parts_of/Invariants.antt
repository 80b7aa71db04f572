-- `place_entries::parts_of` meets its contract. The loop: what the plans of the first i held have is taken.
use Rattle.std.proofs.Common.{◌≡◌, ℕ, ◌*◌, ◌<◌, ◌≤◌, None, length, get_or, take}
use Rattle.activity.specs.declared.Activity.{Activity}
use Rattle.board.specs.declared.Board.{Board}
use Rattle.scheduler.specs.Fitting.{all_companions}
use Rattle.scheduler.specs.Selections.{no_selection, held_to}
use Rattle.cells.specs.Every.{Each}
use Rattle.place_plans.specs.Plans.{no_plan}
use Rattle.place_entries.specs.Cells.{Small}
use Rattle.place_entries.specs.Parts.{PlansKnown}
use Rattle.place_entries.proofs.parts_of.Given as goal

abbrev pub invariant-loop-i : goal.invariant-loop-i
invariant-loop-i l = record {
  long : length l.numbers ≡ 8;
  wide : length l.setups ≡ 8;
  named : (k : ℕ) → k < l.i → get_or l.numbers k 0 ≡ (get_or l.plans (get_or l.held k no_selection).place no_plan).number;
  kept : (k : ℕ) → k < l.i → get_or l.setups k None ≡ (get_or l.plans (get_or l.held k no_selection).place no_plan).setup;
  few : l.companions.len ≤ 4 * l.i;
  small : Each Small (take l.companions.len l.companions.numbers);
  all : (b : Board) (a : Activity) (ready : ℕ) → PlansKnown b a ready l.plans l.held → take l.companions.len l.companions.numbers ≡ all_companions (held_to b l.held l.i);
}
