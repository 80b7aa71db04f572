-- The replies of a diary looked up and of one put back, over plain values.
use mathlib.Core.Bool.{Bool, true, false, not, cond, and-true, or-true, or-false}
use mathlib.Core.Path.{◌≡◌, refl, ap, ◌∙◌}
use Prim.Native.Nat.{ℕ}
use Rattle.calendar.specs.Search.{Found, nothing, at, is_at}
use Rattle.timeline.specs.Diary.{blank_diary}
use Rattle.board.specs.Enter.{entered, with_resource, changed, looked_at, timeline_of_reply, put_refusal, put_timeline_reply}
use Rattle.board_numbers.specs.Entry.{PlaceFor, entry_at, entry_for}
use Rattle.calendar.specs.declared.refusal.Refusal.{Refusal}
use Rattle.calendar.specs.declared.refusal.Refusal.TheVariants.{Invalid}
use Rattle.calendar.specs.Replies.{number_of}
use Rattle.calendar.specs.Laws.Refusals.{numbered}
use Rattle.board.specs.Resources.{with_timeline, resource_at, lookup, on_board}
use Rattle.board.specs.Valid.{valid}
use Rattle.board.specs.declared.Board.{Board}
use Rattle.board.specs.Laws.Replying.{refused_as}
use Rattle.board_numbers.proofs.Finding.{entry_err}
use Rattle.timeline.specs.declared.ResourceTimeline.{ResourceTimeline}
use Rattle.timeline.specs.Valid as timeline

-- a diary looked up
module _ (b : Board) (number : ℕ) where
  looked-of : (v : Bool) (f : Found) → (◌≡◌ {A = ℕ} (cond (not v) (record { refusal = 15; place = 0 }) (entry_at f)).refusal 0 → ⊥)
      → record { refusal = (cond (not v) (record { refusal = 15; place = 0 }) (entry_at f)).refusal; timeline = blank_diary }
      ≡ cond (not v) (record { refusal = 15; timeline = blank_diary }) (looked_at b f)
  unfolding entry_at looked_at
  looked-of false f h = refl
  looked-of true nothing h = refl
  looked-of true (at i) h = absurd (h refl)

  pub looked_refused : (e : Refusal) → record { refusal = number_of e; place = 0 } ≡ entry_for b number → record { refusal = number_of e; timeline = blank_diary } ≡ timeline_of_reply b number
  unfolding timeline_of_reply entry_for
  looked_refused e q =
      let p = ap (λ (x : PlaceFor). x.refusal) q in
      rw p (looked-of (valid b) (lookup b number) (λ z. numbered e (p ∙ z)))

  pub looked-taken : (k : ℕ) → valid b ≡ true → lookup b number ≡ at k → record { refusal = 0; timeline = (resource_at b k).timeline } ≡ timeline_of_reply b number
  unfolding timeline_of_reply looked_at
  looked-taken k v l = rw (v, l) refl

-- a diary put back
module _ (b : Board) (number : ℕ) (t : ResourceTimeline) where
  pub put_wrong : timeline.valid t ≡ false → record { refusal = 15; board = b } ≡ put_timeline_reply b number t
  unfolding put_timeline_reply put_refusal
  put_wrong w = refused_as Invalid _ b _ (rw (w, or-true (not (valid b))) refl)

  pub put_refused : (e : Refusal) → timeline.valid t ≡ true → record { refusal = number_of e; place = 0 } ≡ entry_for b number → record { refusal = number_of e; board = b } ≡ put_timeline_reply b number t
  unfolding put_timeline_reply put_refusal
  put_refused e w q = refused_as e _ b _ (rw (w, or-false (not (valid b))) (rw (and-true (on_board b number)) at (entry_err b number e q 0 true)))

  pub put-taken : (k : ℕ) → timeline.valid t ≡ true → valid b ≡ true → lookup b number ≡ at k
      → record { refusal = 0; board = with_resource b k (with_timeline t (resource_at b k)) } ≡ put_timeline_reply b number t
  unfolding put_timeline_reply put_refusal is_at changed entered
  put-taken k w v l = rw (w, v, l) refl
