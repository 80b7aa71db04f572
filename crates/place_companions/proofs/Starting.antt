-- The start that a resumable ask answers is the least one of the definition.
use Rattle.std.specs.Prelude.{◌≡◌, ℕ, true, false, [], ◌∷◌}
use mathlib.Core.Path.{refl, ap, ◌∙◌}
use Rattle.cells.specs.Laws.Basics.{not-both}
use Rattle.calendar.specs.Search.{Found, nothing, at, Answers}
use Rattle.calendar.specs.Work.{joint_end}
use Rattle.timeline.specs.declared.ResourceTimeline.{ResourceTimeline}
use Rattle.timeline.specs.Valid.{valid}
use Rattle.timeline.specs.Earliest.{free_to, starts_at, earliest_resumable}
use Rattle.timeline.specs.Ask.{AskReply, fit, none, refused, ended, resumed}
use Rattle.timeline.specs.Theorems.Meaning.{resumable-means}

abbrev pub start_in : AskReply → Found
start_in (fit s e) = at s
start_in none = nothing
start_in (refused n) = nothing

module _ (t : ResourceTimeline) (v : valid t ≡ true) (from work u : ℕ) where
  start_of : (f : Found) → Answers (starts_at t work u) from f → start_in (resumed t work f) ≡ f
  unfolding resumed ended starts_at free_to
  start_of nothing w = refl
  start_of (at s) w = go (joint_end (t.calendar ∷ []) s work) refl
    where
      go : (g : Found) → joint_end (t.calendar ∷ []) s work ≡ g → start_in (ended s g) ≡ at s
      go nothing h = absurd (not-both false (rw h at w.holds) refl)
      go (at d) h = refl

  -- so a reply gives the start away
  pub resumable-start : (r : AskReply) → r ≡ resumed t work (earliest_resumable t from work u) → start_in r ≡ earliest_resumable t from work u
  resumable-start r e = ap start_in e ∙ start_of (earliest_resumable t from work u) (resumable-means t v from work u)
