-- What asking a diary answers, in 01's words.
use Rattle.std.specs.Prelude.{ℕ, Option, Some, None, Result, Ok, Err}
use Rattle.calendar.specs.declared.refusal.Refusal.{Refusal}
use Rattle.calendar.specs.Replies.{number_of}
use Rattle.timeline.specs.Ask.{AskReply, fit, none, refused}

abbrev pub reply_of : Result (Option (ℕ × ℕ)) Refusal → AskReply
reply_of (Ok (Some p)) = fit p.0 p.1
reply_of (Ok None) = none
reply_of (Err e) = refused (number_of e)
