-- Two boards alike but for extra bookings (01, 'Placing').
use Rattle.std.specs.Prelude.{◌≡◌, true, ℕ, ◌<◌}
use Rattle.timeline.specs.declared.ResourceTimeline.{ResourceTimeline}
use Rattle.timeline.specs.Bookings.{bookings, Within}
use Rattle.board.specs.declared.Resource.{Resource}
use Rattle.board.specs.declared.Board.{Board}
use Rattle.board.specs.Resources.{resource_at}
use Rattle.board.specs.Valid.{valid}
use Rattle.scheduler.specs.Alone.{diary_of}

-- the second diary holds each booking of the first, counted with repeats; the rest is the same
pub record AlikeDiary (t u : ResourceTimeline) : Type 0 where
  pub capacity_same : t.capacity ≡ u.capacity
  pub calendar_same : t.calendar ≡ u.calendar
  pub more : Within (bookings t) (bookings u)

-- resources that differ only in their diaries' bookings, last categories being the same
pub record AlikeResource (r s : Resource) : Type 0 where
  pub number_same : r.number ≡ s.number
  pub kind_same : r.kind ≡ s.kind
  pub skills_same : r.skills ≡ s.skills
  pub companions_same : r.companions ≡ s.companions
  pub count_same : r.count ≡ s.count
  pub matrix_same : r.matrix ≡ s.matrix
  pub last_same : r.last ≡ s.last
  pub diary_alike : AlikeDiary r.timeline s.timeline

-- both keep the rules, and they differ only in their diaries' bookings
pub record Alike (b c : Board) : Type 0 where
  pub first_valid : valid b ≡ true
  pub second_valid : valid c ≡ true
  pub len_same : b.len ≡ c.len
  pub transport_same : b.transport ≡ c.transport
  pub resources_alike : (i : ℕ) → i < b.len → AlikeResource (resource_at b i) (resource_at c i)

-- no extra is on a resource: the first board's diary holds each booking of the second's too
abbrev pub NoExtra : Board → Board → ℕ → Type 0
NoExtra b c number = Within (bookings (diary_of c number)) (bookings (diary_of b number))
