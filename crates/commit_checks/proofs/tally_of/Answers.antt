use Rattle.std.specs.Prelude.{◌≡◌, ◌<◌, ◌≤◌, length, get_or, refl}
use Rattle.std.proofs.Common.{arith, rules, ◌∙◌, length-set}
use Rattle.commit_checks.proofs.Rows.{counted_none, counted_next, entries-few}
use Rattle.commit_checks.proofs.tally_of.Goals as goal

pub loop-row-init : goal.loop-row-init
loop-row-init c = record { long = refl; counted = counted_none c.args.rows.now }

-- the row names a number below 16
low : (c : goal.After-number_in) → c.number_in.result < 16
low c = rw c.number_in.ensures (c.requires c.loop-row.row-index c.loop-row-test.true)

pub bounds-tally-number_in : goal.bounds-tally-number_in
bounds-tally-number_in c = let w = low c in search rules

pub overflow_add-tally : goal.overflow_add-tally
overflow_add-tally c =
    let l = c.loop-row in
    let w = low c in
    let n = c.number_in.result in
    let small : get_or l.tally n 0 ≤ l.row-index = rw (l.invariant.counted n w) (entries-few n l.row-index c.args.rows.now) in
    search rules

pub loop-row-preserved : goal.loop-row-preserved
loop-row-preserved c =
    let l = c.loop-row in
    record {
      long = length-set l.tally _ _ ∙ l.invariant.long;
      counted = rw c.number_in.ensures (counted_next c.args.rows.now l.row-index l.tally l.invariant.long c.loop-row-test.true (c.requires l.row-index c.loop-row-test.true) l.invariant.counted);
    }

pub returns : goal.returns
returns c =
    let z : c.loop-row.row-index ≡ length c.args.rows.now = omega arith in
    rw z at c.loop-row.invariant.counted
