-- The closing fit in the words of the definition, and the refusals.
use Rattle.std.specs.Prelude.{◌≡◌, ℕ, ◌≤◌, true, cond, not, ◌||◌, ltb, List, ◌++◌, map, length, drop}
use mathlib.Core.Path.{refl, sym, ap, ◌∙◌}
use borrow.Author.Tests.{not-false, ltb-false}
use Rattle.cells.specs.Laws.Basics.{or_left, or_right, unrefused}
use Rattle.calendar.specs.Valid as calendar
use Rattle.calendar.specs.Search.{Found, nothing, at}
use Rattle.timeline.specs.Ask as asking
use Rattle.activity.specs.declared.Activity.{Activity}
use Rattle.activity.specs.Check.{activity_refusal}
use Rattle.board.specs.declared.Board.{Board}
use Rattle.board.specs.Valid.{valid}
use Rattle.scheduler.specs.declared.Entry.{Entry}
use Rattle.scheduler.specs.Alone.{Share}
use Rattle.scheduler.specs.Fitting.{shares_of, fitting, end_of}
use Rattle.scheduler.specs.Placing as placement
use Rattle.scheduler.specs.Placing.{Reply, chosen_none, started, fitted, place_refusal, slate_after}
use Rattle.scheduler.specs.Rows.{Row, row_of}
use Rattle.place_fit.specs.Closing.{with_end, closing}
use Rattle.placing.specs.Told.{placed_of, told}
use Rattle.placing.specs.Answers as reply

-- a start and its end as a reply
unfoldable reply_from : ℕ → List Entry → asking.AskReply → Reply
reply_from t es (asking.fit s e) = placement.ended t s es (at e)
reply_from t es asking.none = chosen_none t
reply_from t es (asking.refused n) = chosen_none t

closing-reply : (a : Activity) (xs : List Share) (span t : ℕ) (es : List Entry) (f : Found) → reply_from t es (with_end a.resumable xs a.calendar span f) ≡ started a.resumable xs a span t es f
unfolding reply_from with_end started asking.ended placement.ended
closing-reply a xs span t es nothing = refl
closing-reply a xs span t es (at s) = go (end_of a.resumable xs a.calendar span s)
  where
    go : (g : Found) → reply_from t es (asking.ended s g) ≡ placement.ended t s es g
    go nothing = refl
    go (at e) = refl

-- nothing refused: the board, the calendar, the slate and the order are right
pub all_right : (b : Board) (a : Activity) (ready slate : ℕ) → place_refusal b a ready slate ≡ 0 → (valid b ≡ true) × (calendar.valid a.calendar ≡ true) × (24 ≤ slate) × (activity_refusal a ready ≡ 0)
unfolding place_refusal
all_right b a ready slate e =
    let x = unrefused (not (valid b) || not (calendar.valid a.calendar)) 14 (cond (ltb slate 24) 7 (activity_refusal a ready)) e in
    let y = unrefused (ltb slate 24) 6 (activity_refusal a ready) x.1 in
    (not-false (valid b) (or_left _ _ x.0), not-false (calendar.valid a.calendar) (or_right (not (valid b)) _ x.0), ltb-false slate 24 y.0, y.1)

-- what the closing fit answers is the definition's reply
module _ (b : Board) (a : Activity) (span t : ℕ) (es : List Entry) (n : ℕ) (long : length es ≡ n) (r : asking.AskReply) (e : r ≡ closing a.resumable (shares_of b es) a.calendar span t) (slate : List Row) where
  fitted-is : fitted b a span t es ≡ reply_from t es r
  unfolding fitted closing
  fitted-is = sym (ap (reply_from t es) e ∙ closing-reply a (shares_of b es) span t es (fitting a.resumable (shares_of b es) a.calendar span t))

  pub fitted-placed : (s d : ℕ) → r ≡ asking.fit s d
      → (reply.Placed (record { choosing = t; start = s; end = d; count = n }) ≡ told (fitted b a span t es)) × (map row_of es ++ drop n slate ≡ slate_after (fitted b a span t es) slate)
  unfolding reply_from told placed_of slate_after placement.ended
  fitted-placed s d h =
      let w : fitted b a span t es ≡ placement.ended t s es (at d) = fitted-is ∙ ap (reply_from t es) h in
      rw (w, ← long) (refl, refl)

  pub fitted_none : r ≡ asking.none → (reply.ChosenNone t ≡ told (fitted b a span t es)) × (slate ≡ slate_after (fitted b a span t es) slate)
  unfolding reply_from told slate_after
  fitted_none h =
      let w : fitted b a span t es ≡ chosen_none t = fitted-is ∙ ap (reply_from t es) h in
      (sym (ap told w), sym (ap (λ (x : Reply). slate_after x slate) w))
