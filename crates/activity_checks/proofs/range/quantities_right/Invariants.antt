-- `activity_checks::range::quantities_right` meets its contract.
use Rattle.std.specs.Prelude.{◌≡◌, ◌+◌, ◌*◌, ◌≤◌, take, drop}
use Rattle.cells.specs.Every.{every}
use Rattle.activity.specs.Check.{quantity, quantity_right}
use Rattle.activity_checks.proofs.range.quantities_right.Given as goal

abbrev pub invariant-loop-q : goal.invariant-loop-q
invariant-loop-q l =
    (l.total ≤ l.q-index * 4294967295)
    × (quantity (take l.fn.len l.fn.requirements) ≡ l.total + quantity (drop l.q-index (take l.fn.len l.fn.requirements)))
    × (every quantity_right (take l.fn.len l.fn.requirements) ≡ every quantity_right (drop l.q-index (take l.fn.len l.fn.requirements)))
