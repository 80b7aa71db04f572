-- Two diaries that agree in every field are the same.
use Rattle.std.specs.Prelude.{◌≡◌}
use Rattle.timeline.specs.declared.ResourceTimeline.{ResourceTimeline}

pub record Agree (a b : ResourceTimeline) : Type 0 where
  pub capacity : a.capacity ≡ b.capacity
  pub calendar : a.calendar ≡ b.calendar
  pub starts : a.starts ≡ b.starts
  pub ends : a.ends ≡ b.ends
  pub units : a.units ≡ b.units
  pub latest : a.latest ≡ b.latest
  pub len : a.len ≡ b.len
  pub booked : a.booked ≡ b.booked

pub agree : (a b : ResourceTimeline) → Agree a b → a ≡ b
agree a b f = λ i. record {
  capacity = f.capacity i;
  calendar = f.calendar i;
  starts = f.starts i;
  ends = f.ends i;
  units = f.units i;
  latest = f.latest i;
  len = f.len i;
  booked = f.booked i;
}
