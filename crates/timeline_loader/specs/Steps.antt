-- A run as the loop takes it, from reply to reply.
use Rattle.std.specs.Prelude.{Bool, true, false, List, [], ◌∷◌, eqb}
use Rattle.calendar.specs.declared.Calendar.{Calendar}
use Rattle.calendar.specs.Replies.{Added}
use Rattle.calendar.specs.Valid.{valid}
use Rattle.timeline_loader.specs.declared.TimeWindow.{TimeWindow}
use Rattle.timeline_loader.specs.Run.{reply, judged}

-- before the first record
unfoldable pub begun_reply : Calendar → Added
begun_reply c = elim (valid c) [ true ↦ reply 0 c | false ↦ reply 15 c ]

-- what the records ws make of the reply so far: a refusal stays
unfoldable pub onward : Calendar → Bool → Added → List TimeWindow → Added
onward c block a ws = elim (eqb a.refusal 0) [ true ↦ judged c block a.calendar ws | false ↦ a ]

-- one record more
unfoldable pub step_reply : Calendar → Bool → Added → TimeWindow → Added
step_reply c block a w = onward c block a (w ∷ [])
