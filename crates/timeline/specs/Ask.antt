-- 01, 'Asking a diary': the replies.
use Rattle.std.specs.Prelude.{ℕ, ◌+◌, not, cond, ◌||◌, [], ◌∷◌, ltb}
use Rattle.calendar.specs.Refusals.{refused_or}
use Rattle.calendar.specs.Limits.{last_asked, longest_span, most_units}
use Rattle.calendar.specs.Search.{Found, nothing, at}
use Rattle.calendar.specs.Work.{joint_end}
use Rattle.timeline.specs.declared.ResourceTimeline.{ResourceTimeline}
use Rattle.timeline.specs.Valid.{valid}
use Rattle.timeline.specs.Earliest.{earliest_fit, earliest_resumable}

-- what a diary replies: a start with its end, none, or a refusal's number
pub data AskReply : Type 0 where
  fit : ℕ → ℕ → AskReply
  none : AskReply
  refused : ℕ → AskReply

-- a start, with the span behind it
unfoldable pub unbroken : ℕ → Found → AskReply
unbroken span nothing = none
unbroken span (at s) = fit s (s + span)

-- a start, with the work's end
unfoldable pub ended : ℕ → Found → AskReply
ended s nothing = none
ended s (at e) = fit s e

-- the least start of resumable work, with the work's end
unfoldable pub resumed : ResourceTimeline → ℕ → Found → AskReply
resumed t work nothing = none
resumed t work (at s) = ended s (joint_end (t.calendar ∷ []) s work)

-- 1 from outside 0 to 2^43 or span outside 0 to 2^53; 3 units outside 1 to 10,000; 0 for none
unfoldable pub ask_refusal : ℕ → ℕ → ℕ → ℕ
ask_refusal from span u = cond (ltb last_asked from || ltb longest_span span) 1 (cond (ltb u 1 || ltb most_units u) 3 0)

-- 15 before all else; units above the capacity is 'none', for they are never free
unfoldable pub asked : ResourceTimeline → ℕ → ℕ → ℕ → AskReply → AskReply
asked t from span u reply = cond (not (valid t)) (refused 15) (refused_or refused (ask_refusal from span u) reply)

-- asking for an unbroken span
abbrev pub fit_reply : ResourceTimeline → ℕ → ℕ → ℕ → AskReply
fit_reply t from span u = asked t from span u (unbroken span (earliest_fit t from span u))

-- asking for resumable work (without a calendar the same: Theorems/Meaning.antt, `no-calendar`)
abbrev pub resumable_reply : ResourceTimeline → ℕ → ℕ → ℕ → AskReply
resumable_reply t from work u = asked t from work u (resumed t work (earliest_resumable t from work u))
