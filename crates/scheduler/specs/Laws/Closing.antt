-- The closing fit finds the least start that suits all, without any bound; a start that suits all has an end.
use Rattle.std.specs.Prelude.{◌≡◌, Bool, ℕ, ◌+◌, ◌≤◌, suc}
use Rattle.std.proofs.Math.Path.{refl, ap}
use Rattle.std.proofs.Common.{sym, ◌∙◌, arith}
use Rattle.std.proofs.Math.Bool.{true, false}
use mathlib.Core.List.{List, [], ◌∷◌}
use Rattle.std.proofs.Math.Logic.{inl}
use Rattle.cells.specs.Laws.Basics.{not-both}
use Rattle.calendar.specs.Search.{Found, nothing, at, Answers}
use Rattle.calendar.specs.Valid as calendar
use Rattle.calendar.specs.Work.{joint_end}
use Rattle.calendar.specs.Theorems.Meaning.{fits-is}
use Rattle.calendar.specs.Laws.Searching.{least-is, least-answers}
use Rattle.timeline.specs.Theorems.Meaning.{straight}
use Rattle.activity.specs.declared.Activity.{Activity}
use Rattle.cells.specs.Every.{every, each_on}
use Rattle.scheduler.specs.Alone.{Share, all_start}
use Rattle.scheduler.specs.Fitting.{fits_all, all_free, calendars_of, free_to_end, starts_all, suits, fitting, end_of, last_all}
use Rattle.scheduler.specs.Placing.{ended, started}
use Rattle.scheduler.specs.Laws.Together.{Sound, last-calm}
use Rattle.calendar.specs.declared.Calendar.{Calendar}
use Rattle.scheduler.specs.Shares.{own_share}
use Rattle.scheduler.specs.Laws.Owning.{own-valid, own-last, suits-on, suits-on-back}

-- the least start that suits all entries and the order's own calendar, or that none does
pub fitting-answers : (resumable : Bool) (xs : List Share) (own : Calendar) (span from : ℕ) → Sound xs → calendar.valid own ≡ true
    → Answers (suits resumable xs own span) from (fitting resumable xs own span from)
unfolding fitting
fitting-answers resumable xs own span from v w = least-answers (suits resumable xs own span) from (last_all xs own) back
  where
    back : (y : ℕ) → last_all xs own ≤ y → suits resumable xs own span (suc y) ≡ true → suits resumable xs own span y ≡ true
    back y l h =
        let calm = last-calm (own_share own ∷ xs) (each_on (own-valid own w) v) y (omega (arith, own-last own xs)) in
        suits-on resumable xs own span y ∙ suits-on-back resumable (own_share own ∷ xs) span y calm (sym (suits-on resumable xs own span (suc y)) ∙ h)

-- a start that suits all has an end
pub has_end : (resumable : Bool) (xs : List Share) (a : Activity) (span s : ℕ) → suits resumable xs a.calendar span s ≡ true
    → (e : ℕ) × (end_of resumable xs a.calendar span s ≡ at e)
unfolding suits end_of starts_all free_to_end
has_end true xs a span s h = go (joint_end (calendars_of xs a.calendar) s span) h
  where
    go : (f : Found) → free_to_end xs s f ≡ true → (e : ℕ) × (f ≡ at e)
    go nothing k = absurd (not-both true refl (sym k))
    go (at e) k = (e, refl)
has_end false xs a span s h = (s + span, refl)

-- the closing fit of nothing, on a calendar without windows and blocks, is at once
module _ (a : Activity) (open-ever : a.calendar.windows.len ≡ 0) (never-shut : a.calendar.blocks.len ≡ 0) (span ready : ℕ) where
  through : joint_end (a.calendar ∷ []) ready span ≡ at (ready + span)
  through = straight a.calendar ready span open-ever never-shut

  at_once : (resumable : Bool) → suits resumable [] a.calendar span ready ≡ true
  unfolding suits starts_all free_to_end all_free fits_all all_start every
  at_once true = rw through refl
  at_once false = fits-is a.calendar ready (ready + span) (record { window = inl open-ever; blocks = λ k l. absurd (omega (arith, never-shut)) })

  ends-then : (resumable : Bool) → end_of resumable [] a.calendar span ready ≡ at (ready + span)
  unfolding end_of
  ends-then true = through
  ends-then false = refl

  pub plainly : (resumable : Bool) → started resumable [] a span ready [] (fitting resumable [] a.calendar span ready) ≡ ended ready ready [] (at (ready + span))
  unfolding started fitting
  plainly resumable =
      ap (started resumable [] a span ready []) (least-is (suits resumable [] a.calendar span) ready _ ready (record { low = omega arith; holds = at_once resumable; first = λ x l m. absurd (omega arith) }) (omega arith))
      ∙ ap (ended ready ready []) (ends-then resumable)
