-- `timeline_windows::add_window` meets its contract.
use Rattle.std.proofs.Common.{◌≡◌, true, IfOk, ap, ◌∙◌}
use Rattle.std.proofs.lemmas.Result.{IfOk-weaker}
use Rattle.calendar.specs.Valid as calendar
use Rattle.timeline.specs.Valid.{valid}
use Rattle.timeline.specs.Book.{calendar_reply}
use Rattle.timeline.specs.Laws.Rules.{rules_of}
use Rattle.timeline_windows.proofs.add_window.Goals as goal

pub returns-clause-value : goal.returns-clause-value
returns-clause-value c = c.calendar_reply.ensures.value ∙ ap (calendar_reply c.args.t) c.add_window.ensures.value

pub returns-clause-timeline_value : goal.returns-clause-timeline_value
returns-clause-timeline_value c =
    let t = c.args.t in
    let kept : valid t ≡ true → IfOk c.add_window.result (λ k. calendar.valid k ≡ true) =
    λ v. IfOk-weaker c.add_window.result (λ k. calendar.valid t.calendar ≡ true → calendar.valid k ≡ true) (λ k. calendar.valid k ≡ true) (λ k g. g (rules_of t v).calendar) c.add_window.ensures.calendar_value in
    IfOk-weaker c.calendar_reply.result (λ d. valid t ≡ true → IfOk c.add_window.result (λ k. calendar.valid k ≡ true) → valid d ≡ true) (λ d. valid t ≡ true → valid d ≡ true) (λ d h v. h v (kept v)) c.calendar_reply.ensures.timeline_value
