-- `record_bodies::numbers::number` meets its contract: the loop goes from the last byte to the first. The invariant: v is the number of the bytes passed, and below the power of 256 of their count.
use mathlib.Core.Path.{◌≡◌}
use Prim.Native.Nat.{◌+◌, ◌-◌, ◌^◌, ◌<◌}
use Rattle.record_bodies.specs.Numbers.{little}
use Rattle.record_bodies.proofs.numbers.number.Given as goal

abbrev pub invariant-loop-k : goal.invariant-loop-k
invariant-loop-k l = (l.v ≡ little l.bytes (l.at + l.k) (l.n - l.k)) × (l.v < 256 ^ (l.n - l.k))
