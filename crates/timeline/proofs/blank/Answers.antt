-- `timeline::blank` meets its contract: a new diary with no capacity.
use mathlib.Core.Path.{refl, ap}
use Rattle.timeline.specs.declared.ResourceTimeline.{ResourceTimeline}
use Rattle.timeline.specs.Diary.{diary}
use Rattle.timeline.specs.Laws.Same.{agree}
use Rattle.timeline.proofs.blank.Goals as goal

pub returns : goal.returns
unfolding diary
returns c =
    let e = c.new.ensures.0 in
    agree _ _ (record {
      capacity = refl;
      calendar = ap (λ (t : ResourceTimeline). t.calendar) e;
      starts = ap (λ (t : ResourceTimeline). t.starts) e;
      ends = ap (λ (t : ResourceTimeline). t.ends) e;
      units = ap (λ (t : ResourceTimeline). t.units) e;
      latest = ap (λ (t : ResourceTimeline). t.latest) e;
      len = ap (λ (t : ResourceTimeline). t.len) e;
      booked = ap (λ (t : ResourceTimeline). t.booked) e;
    })
