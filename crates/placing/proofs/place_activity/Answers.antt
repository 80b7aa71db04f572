-- `placing::place_activity` meets its contract: refused, or what the fit is sought for, and its fit.
use Rattle.std.proofs.Common.{◌≡◌, Bool, length, take, refl, sym, ap, ◌∙◌, arith}
use lib.Seq.{length-take-le}
use Rattle.std.proofs.lemmas.Result.{err_from_is_err_and}
use Rattle.board_rules.proofs.Refusing.{none_refused}
use Rattle.calendar.specs.Laws.Refusals.{numbered}
use Rattle.scheduler.specs.Fitting.{shares_of}
use Rattle.scheduler.specs.Placing.{slate_after, place_refusal, placing}
use Rattle.place_fit.specs.Closing.{closing, fit_of}
use Rattle.placing.specs.Told.{told, answer_of}
use Rattle.placing.proofs.Telling.{all_right, fitted-placed, fitted_none}
use Rattle.placing.proofs.Replying.{ready-lawful, reply-refused, reply-is}
use Rattle.placing.proofs.place_activity.Goals as goal
use Rattle.placing.proofs.place_activity.Goals.{then-a, else-a}

pub returns-in_err-p : goal.returns-in_err-p
unfolding answer_of told slate_after place_refusal
returns-in_err-p c =
    let a = c.args in
    let p = err_from_is_err_and c.from_residual.result c.from_residual.ensures.1 in
    let r = none_refused _ _ _ _ c.places_of.ensures c.in_err-p.ensures.value in
    let e = reply-refused a.b a.a a.ready (length a.slate.now) 15 (rw r.1 refl) (λ z. omega arith) in
    rw (p.1, p.2, r.0, e) (record { value = refl; slate_after = refl })

pub returns-in_err-check : goal.returns-in_err-check
unfolding answer_of told slate_after
returns-in_err-check c =
    let a = c.args in
    let e = reply-refused a.b a.a a.ready (length a.slate.now) _ (c.in_err-check.ensures a.b (rw c.in_ok-p.ensures.ok_part at c.places_of.ensures).0) (numbered _) in
    let p = err_from_is_err_and c.from_residual-in_err-check.result c.from_residual-in_err-check.ensures.1 in
    rw (p.1, p.2, e) (record { value = refl; slate_after = refl })

pub sought-requires : goal.sought-requires
sought-requires c =
    let a = c.args in
    let v : place_refusal a.b a.a a.ready (length a.slate.now) ≡ 0 = sym (c.in_ok-check.ensures a.b (rw c.in_ok-p.ensures.ok_part at c.places_of.ensures).0) in
    let o = all_right _ _ _ _ v in
    (o.0, rw c.ready_of-from.ensures (ready-lawful _ _ o.3), (rw c.in_ok-p.ensures.ok_part at c.places_of.ensures).1)

pub returns-in_default : goal.returns-in_default
unfolding answer_of told slate_after
returns-in_default c =
    let a = c.args in
    let v : place_refusal a.b a.a a.ready (length a.slate.now) ≡ 0 = sym (c.in_ok-check.ensures a.b (rw c.in_ok-p.ensures.ok_part at c.places_of.ensures).0) in
    let o = all_right _ _ _ _ v in
    let e = reply-is a.b a.a a.ready (length a.slate.now) v ∙ ap (placing a.b a.a) (sym c.ready_of-from.ensures) ∙ c.in_default.ensures in
    rw e (record { value = refl; slate_after = refl })

pub fit_resumable-f-requires : goal.fit_resumable-f-requires
fit_resumable-f-requires c =
    let a = c.args in
    let v : place_refusal a.b a.a a.ready (length a.slate.now) ≡ 0 = sym (c.in_ok-check.ensures a.b (rw c.in_ok-p.ensures.ok_part at c.places_of.ensures).0) in
    let o = all_right _ _ _ _ v in
    let s = c.in-Some.ensures in
    (o.0, (rw c.in_ok-p.ensures.ok_part at c.places_of.ensures).1, o.1, s.entries, s.instant, s.short)

pub fit_unbroken-f-requires : goal.fit_unbroken-f-requires
fit_unbroken-f-requires c =
    let a = c.args in
    let v : place_refusal a.b a.a a.ready (length a.slate.now) ≡ 0 = sym (c.in_ok-check.ensures a.b (rw c.in_ok-p.ensures.ok_part at c.places_of.ensures).0) in
    let o = all_right _ _ _ _ v in
    let s = c.in-Some.ensures in
    (o.0, (rw c.in_ok-p.ensures.ok_part at c.places_of.ensures).1, o.1, s.entries, s.instant, s.short)

pub returns-in_default-f : goal.returns-in_default-f
unfolding answer_of fit_of
returns-in_default-f c =
    let a = c.args in
    let v : place_refusal a.b a.a a.ready (length a.slate.now) ≡ 0 = sym (c.in_ok-check.ensures a.b (rw c.in_ok-p.ensures.ok_part at c.places_of.ensures).0) in
    let o = all_right _ _ _ _ v in
    let t = c.in-Some.t in
    let x = c.in-Some.x in
    let s = c.in-Some.ensures in
    let es = take x.entries.count x.entries.entries in
    let long : length es ≡ x.entries.count = length-take-le x.entries.count x.entries.entries (omega (arith, s.entries.few, s.entries.long)) in
    let reply = reply-is a.b a.a a.ready (length a.slate.now) v ∙ ap (placing a.b a.a) (sym c.ready_of-from.ensures) ∙ s.reply in
    let fits : fit_of c.if-a.f ≡ closing a.a.resumable (shares_of a.b es) a.a.calendar x.span t =
    elim c.if-a.branch [
      | then-a w ↦ ap fit_of w.f-is ∙ w.fit_resumable-f.ensures ∙ ap (λ (r : Bool). closing r (shares_of a.b es) a.a.calendar x.span t) (sym w.if-a.true)
      | else-a w ↦ ap fit_of w.f-is ∙ w.fit_unbroken-f.ensures ∙ ap (λ (r : Bool). closing r (shares_of a.b es) a.a.calendar x.span t) (sym w.if-a.false)
    ] in
    let w = fitted_none a.b a.a x.span t es x.entries.count long _ fits a.slate.now (ap fit_of c.in_default-f.is) in
    rw reply (record { value = w.0; slate_after = w.1 })

pub write-requires : goal.write-requires
write-requires c =
    let a = c.args in
    let v : place_refusal a.b a.a a.ready (length a.slate.now) ≡ 0 = sym (c.in_ok-check.ensures a.b (rw c.in_ok-p.ensures.ok_part at c.places_of.ensures).0) in
    let o = all_right _ _ _ _ v in
    let t = c.in-Some.t in
    let x = c.in-Some.x in
    let s = c.in-Some.ensures in
    omega (arith, o.2, s.entries.few, s.entries.long, length-take-le x.entries.count x.entries.entries (omega (arith, s.entries.few, s.entries.long)))

pub returns : goal.returns
unfolding answer_of fit_of
returns c =
    let a = c.args in
    let v : place_refusal a.b a.a a.ready (length a.slate.now) ≡ 0 = sym (c.in_ok-check.ensures a.b (rw c.in_ok-p.ensures.ok_part at c.places_of.ensures).0) in
    let o = all_right _ _ _ _ v in
    let t = c.in-Some.t in
    let x = c.in-Some.x in
    let s = c.in-Some.ensures in
    let es = take x.entries.count x.entries.entries in
    let long : length es ≡ x.entries.count = length-take-le x.entries.count x.entries.entries (omega (arith, s.entries.few, s.entries.long)) in
    let reply = reply-is a.b a.a a.ready (length a.slate.now) v ∙ ap (placing a.b a.a) (sym c.ready_of-from.ensures) ∙ s.reply in
    let fits : fit_of c.if-a.f ≡ closing a.a.resumable (shares_of a.b es) a.a.calendar x.span t =
    elim c.if-a.branch [
      | then-a w ↦ ap fit_of w.f-is ∙ w.fit_resumable-f.ensures ∙ ap (λ (r : Bool). closing r (shares_of a.b es) a.a.calendar x.span t) (sym w.if-a.true)
      | else-a w ↦ ap fit_of w.f-is ∙ w.fit_unbroken-f.ensures ∙ ap (λ (r : Bool). closing r (shares_of a.b es) a.a.calendar x.span t) (sym w.if-a.false)
    ] in
    let w = fitted-placed a.b a.a x.span t es x.entries.count long _ fits a.slate.now c.in-Some-f.start c.in-Some-f.end (ap fit_of c.in-Some-f.is) in
    rw (reply, c.write.ensures, long) (record { value = w.0; slate_after = w.1 })
