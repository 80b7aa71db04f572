-- `timeline_windows::calendar_booked` meets its contract.
use Rattle.std.proofs.Common.{sym, ◌∙◌}
use Rattle.timeline.specs.Diary.{with_calendar}
use Rattle.timeline.specs.Book.{calendar_reply}
use Rattle.timeline.specs.Laws.Rules.{recalendared}
use Rattle.timeline_windows.proofs.calendar_booked.Goals as goal

pub returns-then-not-is_valid : goal.returns-then-not-is_valid
unfolding calendar_reply
returns-then-not-is_valid c =
    let v = sym c.is_valid.ensures ∙ c.if-not-is_valid.true in
    record { value = simp v; timeline_value = λ h k. h }

pub returns : goal.returns
unfolding calendar_reply with_calendar
returns c =
    let t = c.args.t in
    let v = sym c.is_valid.ensures ∙ c.if-not-is_valid.false in
    record { value = simp v; timeline_value = λ h k. recalendared t _ h k }
