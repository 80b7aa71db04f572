use Rattle.std.proofs.Common.{sym, arith}
use Rattle.calendar.specs.Laws.Sets.{bit-yes, bit-no}
use Rattle.board.specs.Places.{anywhere}
use Rattle.board.specs.Laws.Masks.{greatest-none, greatest-hit, greatest-miss}
use Rattle.board_setups.proofs.transport_between.Goals as goal
use Rattle.board_setups.proofs.transport_between.Goals.{then-origins-from-eq1, else-origins-from-eq1}

pub loop-from-init : goal.loop-from-init
loop-from-init c = sym (greatest-none anywhere c.args.transport.now c.args.origins c.args.to)

pub loop-from-preserved : goal.loop-from-preserved
loop-from-preserved c =
    let a = c.args in
    let n = c.loop-from.from in
    elim c.if-origins-from-eq1.branch [
      | then-origins-from-eq1 w ↦ omega (arith, greatest-hit a.transport.now a.origins a.to n (bit-yes _ _ w.if-origins-from-eq1.true))
      | else-origins-from-eq1 w ↦ omega (arith, greatest-miss a.transport.now a.origins a.to n (bit-no _ _ w.if-origins-from-eq1.false))
    ]
