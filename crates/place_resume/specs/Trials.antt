-- What is kept of an instant that is tried: the joint end of the work from it.
use Rattle.std.specs.Prelude.{ℕ, Option, Some, None}
use Rattle.std.specs.Bool.{then_some}
use Rattle.timeline.specs.declared.ResourceTimeline.{ResourceTimeline}
use Rattle.timeline.specs.Earliest.{free_on}

-- the end, where the units are free up to it
unfoldable pub if_free : ResourceTimeline → ℕ → ℕ → Option ℕ → Option ℕ
if_free t units s (Some e) = then_some (free_on t units s e) e
if_free t units s None = None
