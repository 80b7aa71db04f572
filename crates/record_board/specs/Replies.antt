-- What a record answers: what is in hand afterwards, new or unchanged, and the refusal's number, 0 for none.
use Rattle.std.specs.Prelude.{ℕ, Result}
use Rattle.calendar.specs.declared.refusal.Refusal.{Refusal}
use Rattle.calendar.specs.Replies.{refused, kept}
use Rattle.activity.specs.declared.Activity.{Activity}
use Rattle.record_desk.specs.declared.Desk.{Desk}

pub record DeskStepped : Type 0 where
  pub desk : Desk
  pub refusal : ℕ

abbrev pub stepped_of : Desk → Result Desk Refusal → DeskStepped
stepped_of d r = record { desk = kept d r; refusal = refused r }

-- of a part of an order
pub record Ordered : Type 0 where
  pub refusal : ℕ
  pub activity : Activity

abbrev pub ordered_of : Activity → Result Activity Refusal → Ordered
ordered_of a r = record { refusal = refused r; activity = kept a r }
