-- `committing::book_on` meets its contract.
use Rattle.std.proofs.Common.{◌∙◌}
use Rattle.scheduler.specs.Committing.{line_with}
use Rattle.committing.proofs.Ahead.{booked-diary, booked-category, booked-companion, booked-plain}
use Rattle.committing.proofs.book_on.Goals as goal
use Rattle.committing.proofs.book_on.Goals.{else-r-via-then-r+else-not-companion, else-r-via-else-r}

pub returns-then-not-companion : goal.returns-then-not-companion
returns-then-not-companion c =
    let a = c.args in
    let p = c.requires in
    let d = booked-diary a.r.timeline a.start a.end a.category a.units c.book.result p.0 p.1 p.2 p.3.0 p.3.1 c.book.ensures.value in
    c.with_last.ensures ∙ booked-category a.r _ a.start a.end a.category (line_with a.r.number a.units a.companion) d c.if-r.true c.if-not-companion.true

pub returns-else-r : goal.returns-else-r
returns-else-r c =
    let a = c.args in
    let p = c.requires in
    let l = line_with a.r.number a.units a.companion in
    let d = booked-diary a.r.timeline a.start a.end a.category a.units c.book.result p.0 p.1 p.2 p.3.0 p.3.1 c.book.ensures.value in
    elim c.else-r.branch [
      | else-r-via-then-r+else-not-companion w ↦ booked-companion a.r _ a.start a.end a.category l d w.if-not-companion.false w.if-r.true
      | else-r-via-else-r w ↦ booked-plain a.r _ a.start a.end a.category l d w.if-r.false
    ]
