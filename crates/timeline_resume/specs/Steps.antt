-- What the search of resumable work answers, in 01's words.
use Rattle.std.specs.Prelude.{ℕ, Option, Some, None}
use Rattle.timeline.specs.Ask.{AskReply, fit, none}

-- a start with the work's end
abbrev pub resumable_of : Option (ℕ × ℕ) → AskReply
resumable_of (Some p) = fit p.0 p.1
resumable_of None = none
