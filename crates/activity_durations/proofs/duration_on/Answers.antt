-- `activity_durations::duration_on` meets its contract.
use Rattle.std.specs.Prelude.{◌≡◌, ℕ, true, false, List, take, refl}
use Rattle.std.proofs.Common.{sym, ◌∙◌}
use Rattle.std.proofs.lemmas.Result.{err_from_is_err_and}
use Rattle.calendar.specs.Refusals.{refused_or}
use Rattle.calendar.specs.Replies.{number_of}
use Rattle.calendar.specs.Laws.Refusals.{refused_as}
use Rattle.calendar.specs.Valid.{valid}
use Rattle.calendar.specs.declared.refusal.Refusal.{Refusal}
use Rattle.activity.specs.declared.ActivityDuration.{ActivityDuration}
use Rattle.activity.specs.declared.Activity.{Activity}
use Rattle.activity.specs.Durations.{duration_on}
use Rattle.activity.specs.Check.{lasts, refused, reply_of, held_right, activity_refusal, duration_reply}
use Rattle.activity.specs.Laws.Judging.{held-says, accepted}
use Rattle.activity_durations.proofs.duration_on.Goals as goal

module _ (a : Activity) (held : List ℕ) (count : ℕ) where
  calendar-wrong : valid a.calendar ≡ false → refused 15 ≡ duration_reply a held count
  unfolding duration_reply
  calendar-wrong v = sym (rw v refl)

  held-wrong : valid a.calendar ≡ true → held_right held count ≡ false → refused 5 ≡ duration_reply a held count
  unfolding duration_reply
  held-wrong v h = sym (rw (v, h) refl)

  order-wrong : (e : Refusal) → valid a.calendar ≡ true → held_right held count ≡ true → number_of e ≡ activity_refusal a 0 → refused (number_of e) ≡ duration_reply a held count
  unfolding duration_reply
  order-wrong e v h n = refused_as refused e (activity_refusal a 0) (lasts (duration_on a.duration a.timings (take count held))) n ∙ sym (rw (v, h) refl)

  none-wrong : (d : ActivityDuration) → valid a.calendar ≡ true → held_right held count ≡ true → activity_refusal a 0 ≡ 0 → d ≡ duration_on a.duration a.timings (take count held)
      → lasts d ≡ duration_reply a held count
  unfolding duration_reply refused_or
  none-wrong d v h e k = sym (rw (v, h, e, ← k) refl)

pub returns-then-not-is_valid : goal.returns-then-not-is_valid
unfolding reply_of
returns-then-not-is_valid c = calendar-wrong _ _ _ (sym c.is_valid.ensures ∙ c.if-not-is_valid.true)

pub returns-then-not-held_right : goal.returns-then-not-held_right
unfolding reply_of
returns-then-not-held_right c = held-wrong _ _ _ (sym c.is_valid.ensures ∙ c.if-not-is_valid.false) (sym c.held_right.ensures ∙ c.if-not-held_right.true)

pub returns-in_err-refusal : goal.returns-in_err-refusal
unfolding reply_of
returns-in_err-refusal c =
    let p = err_from_is_err_and c.from_residual.result c.from_residual.ensures.1 in
    rw (p.1, p.2) (order-wrong _ _ _ _ (sym c.is_valid.ensures ∙ c.if-not-is_valid.false) (sym c.held_right.ensures ∙ c.if-not-held_right.false) c.in_err-refusal.ensures)

pub duration_on-requires : goal.duration_on-requires
duration_on-requires c =
    let h = held-says _ _ (sym c.held_right.ensures ∙ c.if-not-held_right.false) in
    record { count_bound = h.0; by_index = h.1; lawful = (accepted _ 0 (sym c.in_ok-refusal.ensures)).lawful }

pub returns : goal.returns
unfolding reply_of
returns c =
    none-wrong _ _ _ _ (sym c.is_valid.ensures ∙ c.if-not-is_valid.false) (sym c.held_right.ensures ∙ c.if-not-held_right.false) (sym c.in_ok-refusal.ensures) c.duration_on.ensures
