-- The run as the loop takes it is the run.
use Rattle.std.specs.Prelude.{◌≡◌, refl, ℕ, Bool, true, false, List, [], ◌∷◌, eqb}
use Rattle.std.proofs.Common.{sym, ap, subst, eqb-true, eq-eqb, ne_eqb}
use Rattle.calendar.specs.declared.Calendar.{Calendar}
use Rattle.calendar.specs.Replies.{Added}
use Rattle.calendar.specs.Valid.{valid}
use Rattle.timeline_loader.specs.declared.TimeWindow.{TimeWindow}
use Rattle.timeline_loader.specs.Run.{reply, add_one, judged, add_run}
use Rattle.timeline_loader.specs.Steps.{begun_reply, onward, step_reply}

pub onward-begun : (c : Calendar) (block : Bool) (ws : List TimeWindow) → onward c block (begun_reply c) ws ≡ add_run c block ws
unfolding begun_reply onward add_run
onward-begun c block ws = go (valid c)
  where
    go : (v : Bool) → onward c block (elim v [ true ↦ reply 0 c | false ↦ reply 15 c ]) ws ≡ elim v [ true ↦ judged c block c ws | false ↦ reply 15 c ]
    go true = refl
    go false = refl

pub onward-none : (c : Calendar) (block : Bool) (a : Added) → onward c block a [] ≡ a
unfolding onward judged
onward-none c block a = go (eqb a.refusal 0) refl
  where
    go : (z : Bool) → eqb a.refusal 0 ≡ z → elim z [ true ↦ judged c block a.calendar [] | false ↦ a ] ≡ a
    go true e = rw (← eqb-true a.refusal 0 e) refl
    go false e = refl

pub onward-refused : (c : Calendar) (block : Bool) (a : Added) (ws : List TimeWindow) → (a.refusal ≡ 0 → ⊥) → onward c block a ws ≡ a
unfolding onward
onward-refused c block a ws h = rw (onward, ne_eqb a.refusal 0 h) refl

pub onward-step : (c : Calendar) (block : Bool) (a : Added) (w : TimeWindow) (ws : List TimeWindow) → onward c block (step_reply c block a w) ws ≡ onward c block a (w ∷ ws)
unfolding onward judged step_reply
onward-step c block a w ws = go (eqb a.refusal 0) refl
  where
    one : Added
    one = add_one a.calendar block w

    took : (z : Bool) → eqb one.refusal 0 ≡ z
        → onward c block (elim z [ true ↦ reply 0 one.calendar | false ↦ reply one.refusal c ]) ws
        ≡ elim z [ true ↦ judged c block one.calendar ws | false ↦ reply one.refusal c ]
    took true e = refl
    took false e = rw (onward, e) refl

    go : (z : Bool) → eqb a.refusal 0 ≡ z
        → onward c block (elim z [ true ↦ judged c block a.calendar (w ∷ []) | false ↦ a ]) ws ≡ elim z [ true ↦ judged c block a.calendar (w ∷ ws) | false ↦ a ]
    go true e = took (eqb one.refusal 0) refl
    go false e = rw (onward, e) refl

-- the calendar breaks the rules, or keeps them
pub begun-broken : (c : Calendar) → valid c ≡ false → reply 15 c ≡ begun_reply c
unfolding begun_reply
begun-broken c v = rw (begun_reply, v) refl

pub begun-ruled : (c : Calendar) → valid c ≡ true → reply 0 c ≡ begun_reply c
unfolding begun_reply
begun-ruled c v = rw (begun_reply, v) refl

-- the record is bad, or good
pub step-refused : (c : Calendar) (block : Bool) (a : Added) (w : TimeWindow) (r : Added) → a.refusal ≡ 0 → r ≡ add_one a.calendar block w
    → (r.refusal ≡ 0 → ⊥) → reply r.refusal c ≡ step_reply c block a w
unfolding onward judged step_reply
step-refused c block a w r z e =
    subst (λ (x : Added). (x.refusal ≡ 0 → ⊥) → reply x.refusal c ≡ step_reply c block a w) (sym e)
    (λ h. rw (step_reply, onward, eq-eqb a.refusal 0 z, judged, ne_eqb (add_one a.calendar block w).refusal 0 h) refl)

pub step-taken : (c : Calendar) (block : Bool) (a : Added) (w : TimeWindow) (r : Added) → a.refusal ≡ 0 → r ≡ add_one a.calendar block w
    → r.refusal ≡ 0 → r ≡ step_reply c block a w
unfolding onward judged step_reply
step-taken c block a w r z e =
    subst (λ (x : Added). x.refusal ≡ 0 → x ≡ step_reply c block a w) (sym e)
    (λ h. rw (step_reply, onward, eq-eqb a.refusal 0 z, judged, eq-eqb (add_one a.calendar block w).refusal 0 h) (ap (λ (n : ℕ). reply n (add_one a.calendar block w).calendar) h))
