-- What choosing and placing amount to, in the plainest terms.
use Rattle.std.specs.Prelude.{◌≡◌, true, false, List, [], map, ◌⊎◌, ℕ, ◌+◌, ◌≤◌, length, drop}
use Rattle.std.proofs.Math.Path.{refl, ap}
use Rattle.std.proofs.Common.{◌∙◌, drop_at}
use Rattle.std.proofs.Math.Logic.{inl, inr}
use Rattle.std.proofs.lemmas.List.{length-map}
use Rattle.calendar.specs.Search.{Found, nothing, at, Earliest, Answers}
use Rattle.calendar.specs.Valid as calendar
use Rattle.activity.specs.declared.ResourceRequirement.{ResourceRequirement}
use Rattle.activity.specs.declared.Activity.{Activity}
use Rattle.cells.specs.Every.{each_end}
use Rattle.activity.specs.Check.{requirements_of}
use Rattle.board.specs.declared.Board.{Board}
use Rattle.scheduler.specs.Alone.{span_of}
use Rattle.scheduler.specs.declared.Entry.{Entry}
use Rattle.scheduler.specs.Fitting.{entries_of, span_together, shares_of, suits, fitting, end_of}
use Rattle.scheduler.specs.Placing.{Placement, Reply, placed, chosen_none, none, refused, ended, started, fitted, time_only, by_requirements, placing, slate_after}
use Rattle.scheduler.specs.Rows.{Row, row_of}
use Rattle.scheduler.specs.Plain.{enough, held_at}
use Rattle.scheduler.specs.Laws.Together.{Sound}
use Rattle.scheduler.specs.Laws.Closing.{fitting-answers, has_end, plainly}

-- What the closing fit of some entries amounts to: a placement of them with this choosing instant.
pub record Fitted (b : Board) (a : Activity) (span t : ℕ) (es : List Entry) (p : Placement) : Type 0 where
  pub choosing : p.choosing ≡ t
  pub entries : p.entries ≡ es
  -- the start is the least from the choosing instant on that suits every entry and the order's own calendar
  pub start : Earliest (suits a.resumable (shares_of b es) a.calendar span) t p.start
  -- and the end is where the span or the work ends
  pub end : end_of a.resumable (shares_of b es) a.calendar span p.start ≡ at p.end

module _ (b : Board) (a : Activity) (span t : ℕ) (es : List Entry) (sound : Sound (shares_of b es)) (own : calendar.valid a.calendar ≡ true) where
  abbrev fits : Found
  fits = fitting a.resumable (shares_of b es) a.calendar span t

  answers : Answers (suits a.resumable (shares_of b es) a.calendar span) t fits
  answers = fitting-answers a.resumable (shares_of b es) a.calendar span t sound own

  -- either a placement with such a start and end, or 'chosen, none' because nothing suits from there on
  pub fitted-means :
      ((p : Placement) × (fitted b a span t es ≡ placed p) × Fitted b a span t es p)
      ⊎ ((fitted b a span t es ≡ chosen_none t) × ((x : ℕ) → t ≤ x → suits a.resumable (shares_of b es) a.calendar span x ≡ false))
  unfolding fitted started ended
  fitted-means = go fits refl answers
    where
      go : (f : Found) → fits ≡ f → Answers (suits a.resumable (shares_of b es) a.calendar span) t f
          → ((p : Placement) × (fitted b a span t es ≡ placed p) × Fitted b a span t es p)
          ⊎ ((fitted b a span t es ≡ chosen_none t) × ((x : ℕ) → t ≤ x → suits a.resumable (shares_of b es) a.calendar span x ≡ false))
      go nothing e w = inr (ap (started a.resumable (shares_of b es) a span t es) e, w)
      go (at s) e w =
          let k = has_end a.resumable (shares_of b es) a span s w.holds in
          inl (_, ap (started a.resumable (shares_of b es) a span t es) e ∙ ap (ended t s es) k.1, record { choosing = refl; entries = refl; start = w; end = k.1 })

-- Placing an order with requirements, on a board that keeps the rules, nothing being refused:
pub data Placing (b : Board) (a : Activity) (ready : ℕ) (qs : List ResourceRequirement) : Reply → Type 0 where
  -- at no instant, however late, does every requirement have enough
  never : ((x : ℕ) → ready ≤ x → enough b a ready qs x ≡ false) → Placing b a ready qs none
  -- the choosing instant is the least with enough, but from there on no start suits those held and their companions together
  unfit : (t : ℕ) → Earliest (enough b a ready qs) ready t
      → ((x : ℕ) → t ≤ x → suits a.resumable (shares_of b (entries_of a (held_at b a ready qs t))) a.calendar (span_together a (held_at b a ready qs t)) x ≡ false)
      → Placing b a ready qs (chosen_none t)
  -- or the start is the least from there that suits them
  fit : (t : ℕ) (p : Placement) → Earliest (enough b a ready qs) ready t
      → Fitted b a (span_together a (held_at b a ready qs t)) t (entries_of a (held_at b a ready qs t)) p
      → Placing b a ready qs (placed p)

-- Placing an order without requirements: the span setup + process + teardown at the least start from ready on that suits its own calendar,
-- or 'chosen, none' because there is none; the choosing instant is ready. No timing, matrix or transport is in it.
pub time-only-means : (b : Board) (a : Activity) → calendar.valid a.calendar ≡ true → (ready : ℕ) → requirements_of a ≡ []
    → ((p : Placement) × (placing b a ready ≡ placed p) × Fitted b a (span_of a.duration.setup a.duration) ready [] p)
    ⊎ ((placing b a ready ≡ chosen_none ready) × ((x : ℕ) → ready ≤ x → suits a.resumable [] a.calendar (span_of a.duration.setup a.duration) x ≡ false))
unfolding placing by_requirements time_only
time-only-means b a own ready alone = rw alone (fitted-means b a (span_of a.duration.setup a.duration) ready [] each_end own)

-- without a calendar it starts at ready
pub time-only-plain : (b : Board) (a : Activity) → a.calendar.windows.len ≡ 0 → a.calendar.blocks.len ≡ 0 → (ready : ℕ) → requirements_of a ≡ []
    → (p : Placement) × (placing b a ready ≡ placed p) × (p.choosing ≡ ready) × (p.entries ≡ [])
    × (p.start ≡ ready) × (p.end ≡ ready + span_of a.duration.setup a.duration)
unfolding placing by_requirements time_only fitted ended
time-only-plain b a open-ever never-shut ready alone =
    rw alone (_, plainly a open-ever never-shut (span_of a.duration.setup a.duration) ready a.resumable, refl, refl, refl, refl)

-- Placing writes no slate entry beyond those it reports, and none at all without a placement.
pub slate-rest : (p : Placement) (slate : List Row) → drop (length p.entries) (slate_after (placed p) slate) ≡ drop (length p.entries) slate
unfolding slate_after
slate-rest p slate = drop_at (map row_of p.entries) (drop (length p.entries) slate) (length p.entries) (length-map p.entries row_of)

pub slate-same : (t n : ℕ) (slate : List Row) → (slate_after (chosen_none t) slate ≡ slate) × (slate_after none slate ≡ slate) × (slate_after (refused n) slate ≡ slate)
unfolding slate_after
slate-same t n slate = (refl, refl, refl)
