-- 01, 'Replies': a call that is refused says why by a number, and one that is accepted answers 0; and what adding to a calendar answers.
use Rattle.std.specs.Prelude.{ℕ, Result, Ok, Err}
use Rattle.calendar.specs.declared.Calendar.{Calendar}
use Rattle.calendar.specs.declared.refusal.Refusal.{Refusal}
use Rattle.calendar.specs.declared.refusal.Refusal.TheVariants.{OutOfRange, EmptySpan, Units, Full, Number, Requirements, Slate, Speed, Unreadable, Invalid}

abbrev pub number_of : Refusal → ℕ
number_of OutOfRange = 1
number_of EmptySpan = 2
number_of Units = 3
number_of Full = 4
number_of Number = 5
number_of Requirements = 6
number_of Slate = 7
number_of Speed = 8
number_of Unreadable = 9
number_of Invalid = 15

-- the number that an answer tells: 0 where nothing is refused
abbrev pub refused : {T : Type 0} → Result T Refusal → ℕ
refused (Ok _) = 0
refused (Err e) = number_of e

-- what is in hand after an answer: what it gives, and where it refuses what was there
abbrev pub kept : {T : Type 0} → T → Result T Refusal → T
kept _ (Ok y) = y
kept x (Err _) = x

-- What adding answers: the refusal's number, 0 for none, and the calendar, new or unchanged.
pub record Added : Type 0 where
  pub refusal : ℕ
  pub calendar : Calendar

abbrev pub added_of : Calendar → Result Calendar Refusal → Added
added_of c r = record { refusal = refused r; calendar = kept c r }
