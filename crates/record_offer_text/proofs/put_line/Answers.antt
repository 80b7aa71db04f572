-- `record_offer_text::put_line` meets its contract: by the cases of the answer.
use native.Mathlib.Omega.{arith}
use Rattle.record_texts.specs.Laws.Putting.{put-none}
use Rattle.record_diary_text.specs.Lines as slot
use Rattle.record_offer_text.specs.Lines.{line_text}
use Rattle.record_offer_text.proofs.put_line.Goals as goal

pub returns-in-Nothing : goal.returns-in-Nothing
unfolding line_text
returns-in-Nothing c = rw c.in-Nothing.is (record { put = put-none _ _; upper_bound = omega arith })

pub returns-in-Placed : goal.returns-in-Placed
unfolding line_text
returns-in-Placed c = rw c.in-Placed.is (record { put = c.put_placed.ensures.put; upper_bound = c.put_placed.ensures.upper_bound })

pub returns-in-Chosen : goal.returns-in-Chosen
unfolding line_text
returns-in-Chosen c = rw c.in-Chosen.is (record { put = c.put_chosen.ensures.put; upper_bound = c.put_chosen.ensures.upper_bound })

pub returns-in-None : goal.returns-in-None
unfolding line_text slot.line_of
returns-in-None c = rw c.in-None.is (record { put = c.text.ensures.put; upper_bound = omega (arith, c.text.ensures.upper_bound) })

pub returns-in-Committed : goal.returns-in-Committed
unfolding line_text
returns-in-Committed c = rw c.in-Committed.is (record { put = c.put.ensures; upper_bound = omega (arith, c.put.ensures.end) })

pub returns-in-Refused : goal.returns-in-Refused
unfolding line_text slot.line_of
returns-in-Refused c = rw c.in-Refused.is (record { put = c.text-in-Refused.ensures.put; upper_bound = omega (arith, c.text-in-Refused.ensures.upper_bound) })
