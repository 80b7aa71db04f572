-- `timeline_loader::add_run` meets its contract: each turn of the loop takes one record from those that are left.
use Rattle.std.proofs.Common.{rules, ◌≡◌, refl, sym, ap, ◌∙◌, ℕ, ◌+◌, ◌<◌, Bool, List, ◌∷◌, length, get_or, drop, add-one, drop-cons, Ok, Err}
use Rattle.std.proofs.lemmas.List.{drop_all}
use Rattle.calendar.specs.declared.Calendar.{Calendar}
use Rattle.calendar.specs.declared.refusal.Refusal.{Refusal}
use Rattle.calendar.specs.Replies.{Added, added_of}
use Rattle.calendar.specs.Laws.Refusals.{numbered}
use Rattle.timeline_loader.specs.declared.TimeWindow.{TimeWindow}
use Rattle.timeline_loader.specs.Run.{reply, add_one, judged}
use Rattle.timeline_loader.specs.Laws.Judging.{judged-good, judged-bad, one-new}
use Rattle.timeline_loader.specs.Theorems.Meaning.{run-broken, run-judged}
use Rattle.timeline_loader.proofs.add_run.Goals as goal

-- what stands past the end, for `get_or`
abbrev none : TimeWindow
none = record { start = 0; end = 0 }

module _ (c : Calendar) (block : Bool) (k : Calendar) (w : TimeWindow) (ws : List TimeWindow) where
  -- a bad record ends the run, and its number is told
  bad : (e : Refusal) → added_of k (Err e) ≡ add_one k block w → added_of c (Err e) ≡ judged c block k (w ∷ ws)
  bad e h =
      let q = ap (λ (a : Added). a.refusal) h in
      ap (λ (n : ℕ). reply n c) q ∙ sym (judged-bad c block k w ws (λ z. numbered e (q ∙ z)))

  -- a good one is taken
  good : (d : Calendar) → added_of k (Ok d) ≡ add_one k block w → judged c block d ws ≡ judged c block k (w ∷ ws)
  good d h =
      let z = sym (ap (λ (a : Added). a.refusal) h) in
      let g = ap (λ (a : Added). a.calendar) (h ∙ one-new k block w z) in
      ap (λ (m : Calendar). judged c block m ws) g ∙ sym (judged-good c block k w ws z)

-- what is left of a run begins with the record at hand
left : (c : Calendar) (block : Bool) (k : Calendar) (ws : List TimeWindow) (i : ℕ) (r : Added) → i < length ws → judged c block k (drop i ws) ≡ r → judged c block k (get_or ws i none ∷ drop (i + 1) ws) ≡ r
left c block k ws i r l e = rw (add-one, ← drop-cons ws i none l) e

pub returns-then-not-is_valid : goal.returns-then-not-is_valid
returns-then-not-is_valid c = sym (run-broken _ _ _ (sym c.is_valid.ensures ∙ c.if-not-is_valid.true))

pub loop-w-init : goal.loop-w-init
loop-w-init c = refl

pub returns-in_err-sofar : goal.returns-in_err-sofar
returns-in_err-sofar c =
    let r : c.from_residual.result ≡ Err c.in_err-sofar.field-0.0 = search rules in
    ap (added_of c.args.c) r
    ∙ bad _ _ _ _ _ _ c.in_err-sofar.ensures
    ∙ left _ _ _ _ _ _ c.loop-w-test.true c.loop-w.invariant
    ∙ sym (run-judged _ _ _ (sym c.is_valid.ensures ∙ c.if-not-is_valid.false))

pub loop-w-preserved : goal.loop-w-preserved
loop-w-preserved c = good _ _ _ _ _ _ c.in_ok-sofar.ensures ∙ left _ _ _ _ _ _ c.loop-w-test.true c.loop-w.invariant

pub returns : goal.returns
unfolding judged
returns c =
    (rw (drop_all c.loop-w.w-index c.args.run.now c.loop-w-test.false) at c.loop-w.invariant)
    ∙ sym (run-judged _ _ _ (sym c.is_valid.ensures ∙ c.if-not-is_valid.false))
