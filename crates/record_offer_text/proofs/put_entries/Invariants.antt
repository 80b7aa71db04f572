-- `record_offer_text::put_entries` meets its contract: the lines of the rows so far stand behind one another.
use Rattle.std.proofs.Common.{◌+◌, ◌*◌, ◌≤◌, take}
use Rattle.record_texts.specs.Text.{Put}
use Rattle.record_offer_text.specs.Lines.{entries_text, entry_most}
use Rattle.record_offer_text.proofs.put_entries.Given as goal

abbrev pub invariant-loop-row : goal.invariant-loop-row
invariant-loop-row l = (l.end ≤ l.at + entry_most * l.row-index) × Put l.initial.out l.at (entries_text (take l.row-index l.rows)) l.out l.end
