-- What an answer of `place_activity` says of the paper's reply: each of its cases with the paper's values and number; the entries stand on
-- the slate.
use Rattle.std.specs.Prelude.{length, Result, Ok, Err}
use Rattle.calendar.specs.declared.refusal.Refusal.{Refusal}
use Rattle.calendar.specs.Replies.{number_of}
use Rattle.calendar.specs.Search.{Found, nothing, at}
use Rattle.scheduler.specs.Placing.{Placement, Reply, placed, chosen_none, none, refused}
use Rattle.placing.specs.declared.Placed.{Placed}
use Rattle.placing.specs.declared.PlaceReply.{PlaceReply}
use Rattle.placing.specs.declared.PlaceReply.TheVariants as code
use Rattle.placing.specs.Answers as reply
use Rattle.placing.specs.Answers.{Answer}

-- the numbers that are told of a placement
unfoldable pub placed_of : Placement → Placed
placed_of p = record { choosing = p.choosing; start = p.start; end = p.end; count = length p.entries }

unfoldable pub told : Reply → Answer
told (placed p) = reply.Placed (placed_of p)
told (chosen_none t) = reply.ChosenNone t
told none = reply.None
told (refused n) = reply.Refused n

-- an answer in those cases
unfoldable pub answer_of : Result PlaceReply Refusal → Answer
answer_of (Ok (code.Placed p)) = reply.Placed p
answer_of (Ok (code.ChosenNone t)) = reply.ChosenNone t
answer_of (Ok code.None) = reply.None
answer_of (Err e) = reply.Refused (number_of e)

-- the choosing instant that an answer tells
unfoldable pub instant_of : Answer → Found
instant_of (reply.Placed p) = at p.choosing
instant_of (reply.ChosenNone t) = at t
instant_of reply.None = nothing
instant_of (reply.Refused n) = nothing

-- the number with which it refuses, nothing where it does not
unfoldable pub refused_by : Answer → Found
refused_by (reply.Placed p) = nothing
refused_by (reply.ChosenNone t) = nothing
refused_by reply.None = nothing
refused_by (reply.Refused n) = at n
