-- What a record of `run_board` answers: nothing, what was asked, or a refusal's number; and what is in hand afterwards, where the next
-- record begins, and whether to go on.
use Rattle.std.specs.Prelude.{ℕ, Bool, Result, Ok, Err}
use Rattle.calendar.specs.declared.refusal.Refusal.{Refusal}
use Rattle.calendar.specs.Replies.{number_of}
use Rattle.record_bodies.specs.declared.turns.Turn.{Turn}
use Rattle.record_desk.specs.declared.Desk.{Desk}
use Rattle.record_queries.specs.declared.QueryAnswer as declared
use Rattle.record_queries.specs.declared.QueryAnswer.TheVariants as told

pub data QueryAnswer : Type 0 where
  Nothing : QueryAnswer
  Lasts : ℕ → ℕ → ℕ → QueryAnswer
  Setup : ℕ → QueryAnswer
  Transport : ℕ → QueryAnswer
  Serves : QueryAnswer
  No : QueryAnswer
  Refused : ℕ → QueryAnswer

pub record QueryTurn : Type 0 where
  pub desk : Desk
  pub answer : QueryAnswer
  pub at : ℕ
  pub more : Bool

abbrev pub answer_of : declared.QueryAnswer → QueryAnswer
answer_of told.Nothing = Nothing
answer_of (told.Lasts s p t) = Lasts s p t
answer_of (told.Setup ms) = Setup ms
answer_of (told.Transport ms) = Transport ms
answer_of told.Serves = Serves
answer_of told.No = No
answer_of (told.Refused e) = Refused (number_of e)

-- what an ask answers: a value, or a refusal
abbrev pub asked_as : {T : Type 0} → (T → QueryAnswer) → Result T Refusal → QueryAnswer
asked_as f (Ok x) = f x
asked_as f (Err e) = Refused (number_of e)

abbrev pub turn_of : Turn Desk declared.QueryAnswer → QueryTurn
turn_of t = record { desk = t.state; answer = answer_of t.reply; at = t.at; more = t.more }
