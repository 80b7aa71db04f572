-- What the reply to a run on a diary amounts to.
use Rattle.std.specs.Prelude.{◌≡◌, refl, Bool, true, false, List, [], ◌∷◌, ℕ}
use Rattle.std.proofs.Common.{sym, ap, subst, ◌∙◌, arith}
use Rattle.calendar.specs.Replies.{Added}
use Rattle.timeline.specs.declared.ResourceTimeline.{ResourceTimeline}
use Rattle.timeline.specs.declared.Booked.{Booked}
use Rattle.timeline.specs.Valid.{valid}
use Rattle.timeline.specs.Diary.{with_calendar}
use Rattle.timeline.specs.Book.{calendar_reply}
use Rattle.timeline.specs.Laws.Rules.{recalendared}
use Rattle.timeline_loader.specs.declared.TimeWindow.{TimeWindow}
use Rattle.timeline_loader.specs.Run.{add_one, add_run, add_timeline_run}
use Rattle.timeline_loader.specs.Plain.{list_of, WholeArrays, TakenByDiary}
use Rattle.timeline_loader.specs.Theorems.Meaning.{run-one, run-refused, run-accepted}

abbrev answer : ResourceTimeline → Added → Booked
answer t a = record { refusal = a.refusal; timeline = with_calendar t a.calendar }

reply-ruled : (t : ResourceTimeline) (a : Added) → valid t ≡ true → calendar_reply t a ≡ answer t a
unfolding calendar_reply
reply-ruled t a v = simp v

-- 15 for a diary that breaks the rules, whatever the run
pub timeline-broken : (t : ResourceTimeline) (block : Bool) (ws : List TimeWindow) → valid t ≡ false → add_timeline_run t block ws ≡ record { refusal = 15; timeline = t }
unfolding add_timeline_run calendar_reply
timeline-broken t block ws v = simp v

-- a run of one is the record singly, as the diary's `add_window` and `add_block` answer
pub timeline-one : (t : ResourceTimeline) (block : Bool) (w : TimeWindow) → add_timeline_run t block (w ∷ []) ≡ calendar_reply t (add_one t.calendar block w)
unfolding add_timeline_run
timeline-one t block w = ap (λ (a : Added). calendar_reply t a) (run-one t.calendar block w)

-- a refused run changes nothing
pub timeline-refused : (t : ResourceTimeline) (block : Bool) (ws : List TimeWindow) → ((add_timeline_run t block ws).refusal ≡ 0 → ⊥) → (add_timeline_run t block ws).timeline ≡ t
unfolding add_timeline_run with_calendar
timeline-refused t block ws h = go (valid t) refl
  where
    a : Added
    a = add_run t.calendar block ws

    go : (v : Bool) → valid t ≡ v → (add_timeline_run t block ws).timeline ≡ t
    go false q = ap (λ (b : Booked). b.timeline) (timeline-broken t block ws q)
    go true q =
        let j = reply-ruled t a q in
        ap (λ (b : Booked). b.timeline) j ∙ ap (with_calendar t) (run-refused t.calendar block ws (λ z. h (ap (λ (b : Booked). b.refusal) j ∙ z)))

pub timeline-accepted : (t : ResourceTimeline) (block : Bool) (ws : List TimeWindow) → WholeArrays (list_of block t.calendar)
    → (add_timeline_run t block ws).refusal ≡ 0 → TakenByDiary t block ws (add_timeline_run t block ws).timeline
unfolding add_timeline_run with_calendar
timeline-accepted t block ws h e = go (valid t) refl
  where
    a : Added
    a = add_run t.calendar block ws

    go : (v : Bool) → valid t ≡ v → TakenByDiary t block ws (add_timeline_run t block ws).timeline
    go false q = let z : ◌≡◌ {A = ℕ} 15 0 = ap (λ (b : Booked). b.refusal) (sym (timeline-broken t block ws q)) ∙ e in absurd (omega arith)
    go true q =
        let j = reply-ruled t a q in
        let r = run-accepted t.calendar block ws h (sym (ap (λ (b : Booked). b.refusal) j) ∙ e) in
        subst (λ (b : Booked). TakenByDiary t block ws b.timeline) (sym j) (record { accepted = r; same = refl; ruled = recalendared t a.calendar q r.ruled })
