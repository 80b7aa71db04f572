-- `timeline_windows::calendar_reply` meets its contract.
use Rattle.std.proofs.Common.{◌≡◌, true}
use Rattle.std.proofs.lemmas.Result.{IfOk-at_ok}
use Rattle.calendar.specs.Valid.{valid}
use Rattle.timeline.specs.Diary.{with_calendar}
use Rattle.timeline.specs.Laws.Rules.{recalendared}
use Rattle.timeline_windows.proofs.calendar_reply.Goals as goal

pub returns-clause-timeline_value : goal.returns-clause-timeline_value
unfolding with_calendar
returns-clause-timeline_value c = λ v k. recalendared c.args.t _ v (IfOk-at_ok (λ d. valid d ≡ true) c.in_ok-calendar.was k)
