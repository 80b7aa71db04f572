-- The greatest setup, as `max` over the entries gives it.
use Rattle.std.proofs.Common.{◌≡◌, ℕ, max, List, [], ◌∷◌, map, arith}
use Rattle.std.specs.List.{fold}
use Rattle.calendar.specs.Search.{greatest_of}
use Rattle.scheduler.specs.declared.Entry.{Entry}
use Rattle.scheduler.specs.Fitting.{greatest_setup}

from-most : (most : ℕ) (es : List Entry) → fold (λ m (x : Entry). max m x.setup) most es ≡ max most (greatest_of (map (λ (x : Entry). x.setup) es))
unfolding greatest_of
from-most most [] = omega arith
from-most most (e ∷ es) = rw (from-most (max most e.setup) es) (omega arith)

pub greatest-is : (es : List Entry) → fold (λ m (x : Entry). max m x.setup) 0 es ≡ greatest_setup es
unfolding greatest_setup
greatest-is es = omega (arith, from-most 0 es)
