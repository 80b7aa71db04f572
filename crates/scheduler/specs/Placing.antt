-- The reply of placing, and the slate afterwards.
use Rattle.std.specs.Prelude.{ℕ, Bool, not, ◌||◌, cond, List, [], ◌∷◌, ◌++◌, map, length, drop, ltb}
use Rattle.calendar.specs.Refusals.{refused_or}
use Rattle.calendar.specs.Search.{Found, nothing, at}
use Rattle.calendar.specs.Valid as calendar
use Rattle.activity.specs.declared.ResourceRequirement.{ResourceRequirement}
use Rattle.activity.specs.declared.Activity.{Activity}
use Rattle.activity.specs.Ready.{ready_of}
use Rattle.activity.specs.Check.{requirements_of, activity_refusal}
use Rattle.board.specs.declared.Board.{Board}
use Rattle.board.specs.Valid as board
use Rattle.scheduler.specs.Alone.{Share, span_of}
use Rattle.scheduler.specs.Choosing.{Choice, no_choice, chosen, choosing}
use Rattle.scheduler.specs.declared.Entry.{Entry}
use Rattle.scheduler.specs.Fitting.{entries_of, span_together, shares_of, fitting, end_of}
use Rattle.scheduler.specs.Rows.{Row, row_of}

-- a placement: the choosing instant, the start and the end, and the entries
pub record Placement : Type 0 where
  pub choosing : ℕ
  pub start : ℕ
  pub end : ℕ
  pub entries : List Entry

-- what placing replies: a placement, 'chosen, none' with the choosing instant, 'none', or a refusal's number
pub data Reply : Type 0 where
  placed : Placement → Reply
  chosen_none : ℕ → Reply
  none : Reply
  refused : ℕ → Reply

-- no start: 'chosen, none'
unfoldable pub ended : ℕ → ℕ → List Entry → Found → Reply
ended t s es nothing = chosen_none t
ended t s es (at e) = placed (record { choosing = t; start = s; end = e; entries = es })

unfoldable pub started : Bool → List Share → Activity → ℕ → ℕ → List Entry → Found → Reply
started resumable xs a span t es nothing = chosen_none t
started resumable xs a span t es (at s) = ended t s es (end_of resumable xs a.calendar span s)

-- the closing fit of some entries, from the choosing instant on
unfoldable pub fitted : Board → Activity → ℕ → ℕ → List Entry → Reply
fitted b a span t es =
    started a.resumable (shares_of b es) a span t es (fitting a.resumable (shares_of b es) a.calendar span t)

-- the choice, then the fit of those held
unfoldable pub fit_chosen : Board → Activity → Choice → Reply
fit_chosen b a no_choice = none
fit_chosen b a (chosen t hs) = fitted b a (span_together a hs) t (entries_of a hs)

-- without requirements: setup + process + teardown from ready on the own calendar; the choosing instant is ready
unfoldable pub time_only : Board → Activity → ℕ → Reply
time_only b a ready = fitted b a (span_of a.duration.setup a.duration) ready []

unfoldable pub by_requirements : List ResourceRequirement → Reply → Reply → Reply
by_requirements [] alone held = alone
by_requirements (q ∷ qs) alone held = held

-- placing from ready on, nothing being refused
unfoldable pub placing : Board → Activity → ℕ → Reply
placing b a ready = by_requirements (requirements_of a) (time_only b a ready) (fit_chosen b a (choosing b a ready))

-- 15 a board or an own calendar that breaks the rules; 7 a slate under 24 entries; then the order's refusals: 5, 1, 6, 3, 8
unfoldable pub place_refusal : Board → Activity → ℕ → ℕ → ℕ
place_refusal b a ready slate =
    cond (not (board.valid b) || not (calendar.valid a.calendar)) 15
    (cond (ltb slate 24) 7 (activity_refusal a ready))

-- what placing replies, the slate having so many entries
unfoldable pub place_reply : Board → Activity → ℕ → ℕ → Reply
place_reply b a ready slate = refused_or refused (place_refusal b a ready slate) (placing b a (ready_of a.release ready))

-- a placement stands at the front of the slate, and nothing else is written
unfoldable pub slate_after : Reply → List Row → List Row
slate_after (placed p) slate = map row_of p.entries ++ drop (length p.entries) slate
slate_after (chosen_none t) slate = slate
slate_after none slate = slate
slate_after (refused n) slate = slate

-- only a placement and 'chosen, none' have a choosing instant
unfoldable pub choosing_instant : Reply → Found
choosing_instant (placed p) = at p.choosing
choosing_instant (chosen_none t) = at t
choosing_instant none = nothing
choosing_instant (refused n) = nothing

-- the number with which a reply refuses, nothing where it does not
unfoldable pub refusal_of : Reply → Found
refusal_of (placed p) = nothing
refusal_of (chosen_none t) = nothing
refusal_of none = nothing
refusal_of (refused n) = at n
