-- `record_diary_text::lines::text` meets its contract: by the cases of the line.
use native.Mathlib.Omega.{arith}
use Rattle.record_texts.specs.Laws.Putting.{put-none}
use Rattle.record_diary_text.specs.Lines.{text_of, line_of}
use Rattle.record_diary_text.proofs.lines.text.Goals as goal

pub returns-in-Nothing : goal.returns-in-Nothing
unfolding line_of text_of
returns-in-Nothing c = rw c.in-Nothing.is (record { put = put-none _ _; upper_bound = omega arith })

pub returns-in-Fit : goal.returns-in-Fit
unfolding line_of
returns-in-Fit c = rw c.in-Fit.is (record { put = c.put_fit.ensures.put; upper_bound = c.put_fit.ensures.upper_bound })

pub returns-in-None : goal.returns-in-None
unfolding line_of text_of
returns-in-None c = rw c.in-None.is (record { put = c.put.ensures; upper_bound = omega (arith, c.put.ensures.end) })

pub returns-in-Refused : goal.returns-in-Refused
unfolding line_of
returns-in-Refused c = rw (c.in-Refused.is, ← c.number.ensures) (record { put = c.put_refused.ensures.put; upper_bound = c.put_refused.ensures.upper_bound })
