-- `timeline::capacity_of` meets its contract: by the sign of what is given.
use mathlib.Core.Path.{◌≡◌, refl, sym}
use mathlib.Core.Bool.{true, false, true≢false}
use Prim.Native.Nat.{◌^◌, ◌≤◌, ◌<◌}
use native.Mathlib.Omega.{arith}
use lib.Dec.{T}
use lib.IntN.{ℤ, pos, negsuc, nat_abs}
use lib.Signed.{lt_z, non_neg}
use mir.Syntax.{w32}
use mir.Val.{SFits}
use mir.ValLaws.{to_z-of_z}
use borrow.Author.Tests.{ltb-true, ltb-false}
use Rattle.timeline.specs.Diary.{capacity_of}
use Rattle.timeline.proofs.capacity_of.Goals as goal

record Above (z : ℤ) : Type 0 where
  sign : T (non_neg z)
  low : 1 ≤ nat_abs z
  high : nat_abs z < 2 ^ 31
  same : nat_abs z ≡ capacity_of z

above : (z : ℤ) → SFits w32 z → lt_z (pos 1) z ≡ true → Above z
unfolding capacity_of
above (pos n) f h =
    let l : 1 < n = ltb-true 1 n h in
    let g : n < 2 ^ 31 = f.sfits in
    record { sign = tt; low = omega arith; high = g; same = omega arith }
above (negsuc n) f h = absurd (true≢false (sym h))

below : (z : ℤ) → lt_z (pos 1) z ≡ false → capacity_of z ≡ 1
unfolding capacity_of
below (pos n) h = let l : n ≤ 1 = ltb-false 1 n h in omega arith
below (negsuc n) h = refl

facts : (c : goal.Then-given-gt1) → Above c.args.given
facts c = above _ c.ranges.given (rw (to_z-of_z w32 c.args.given c.ranges.given) at c.if-given-gt1.true)

pub overflow_cast-result : goal.overflow_cast-result
overflow_cast-result c =
    let f = facts c in
    rw (to_z-of_z w32 c.args.given c.ranges.given) (f.sign, record { fits = omega (arith, f.high) })

pub returns-then-given-gt1 : goal.returns-then-given-gt1
returns-then-given-gt1 c =
    let f = facts c in
    rw (to_z-of_z w32 c.args.given c.ranges.given) (f.same, f.low, f.high)

pub returns-else-given-gt1 : goal.returns-else-given-gt1
returns-else-given-gt1 c =
    (sym (below _ (rw (to_z-of_z w32 c.args.given c.ranges.given) at c.if-given-gt1.false)), omega arith, omega arith)
