-- What a booking answers, and a window or a block of a diary.
use Rattle.std.specs.Prelude.{Result}
use Rattle.calendar.specs.declared.refusal.Refusal.{Refusal}
use Rattle.calendar.specs.Replies.{refused, kept}
use Rattle.timeline.specs.declared.ResourceTimeline.{ResourceTimeline}
use Rattle.timeline.specs.declared.Booked.{Booked}

-- the record of the refusal's number, 0 for none, and of the diary, new or unchanged, that a Result stands for
abbrev pub booked_of : ResourceTimeline → Result ResourceTimeline Refusal → Booked
booked_of t r = record { refusal = refused r; timeline = kept t r }
