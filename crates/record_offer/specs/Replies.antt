-- What a record of `offer` answers: nothing, what placing and committing answer, or a refusal's number; and what is in hand afterwards,
-- where the next record begins, and whether to go on.
use Rattle.std.specs.Prelude.{ℕ, Bool}
use Rattle.calendar.specs.Replies.{number_of}
use Rattle.placing.specs.declared.Placed as placing
use Rattle.record_bodies.specs.declared.turns.Turn.{Turn}
use Rattle.record_desk.specs.declared.Desk.{Desk}
use Rattle.record_offer.specs.declared.OfferAnswer as declared
use Rattle.record_offer.specs.declared.OfferAnswer.TheVariants as told

pub data OfferAnswer : Type 0 where
  Nothing : OfferAnswer
  Placed : placing.Placed → OfferAnswer
  Chosen : ℕ → OfferAnswer
  None : OfferAnswer
  Committed : OfferAnswer
  Refused : ℕ → OfferAnswer

pub record OfferTurn : Type 0 where
  pub desk : Desk
  pub answer : OfferAnswer
  pub at : ℕ
  pub more : Bool

abbrev pub tells : declared.OfferAnswer → OfferAnswer
tells told.Nothing = Nothing
tells (told.Placed p) = Placed p
tells (told.Chosen t) = Chosen t
tells told.None = None
tells told.Committed = Committed
tells (told.Refused e) = Refused (number_of e)

abbrev pub turn_of : Turn Desk declared.OfferAnswer → OfferTurn
turn_of t = record { desk = t.state; answer = tells t.reply; at = t.at; more = t.more }
