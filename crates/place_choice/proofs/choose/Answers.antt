use Rattle.std.proofs.Common.{◌≡◌, ◌*◌, length, sym, ap, ◌∙◌, arith}
use Rattle.activity.specs.Laws.Judging.{accepted}
use Rattle.board.specs.Resources.{resource_at}
use Rattle.board.specs.Laws.Facts.{rules_of}
use Rattle.place_plans.specs.Plans.{plan_with}
use Rattle.place_plans.proofs.Planning.{order-lawful, category_range, way-small, arrival-is, planned-next}
use Rattle.place_rounds.proofs.Noting.{through-start, kept-none, cell-known}
use Rattle.place_rounds.proofs.Settling.{led-start}
use Rattle.place_choice.proofs.Passing.{asked_here, answers, seeks, asked-next}
use Rattle.place_choice.proofs.choose.Goals as goal
use Rattle.place_choice.proofs.choose.Goals.{then-is_asked, else-is_asked}

pub loop-i-init : goal.loop-i-init
loop-i-init c = record { few = (rules_of c.args.b c.requires.0).few; planned = record { long = ap length c.no_plans-plans.ensures; so = λ i l. absurd (omega arith) } }

pub plan_of-requires : goal.plan_of-requires
plan_of-requires c =
    let b = c.args.b in
    let a = c.args.a in
    let i = c.loop-i.i in
    let l = c.loop-i-test.true in
    ((rules_of b c.requires.0).right i l, order-lawful b a c.args.ready c.requires.0 c.requires.1, category_range b a c.args.ready c.requires.0 c.requires.1, way-small b a c.args.ready c.requires.0 c.requires.1 i l)

pub loop-i-preserved : goal.loop-i-preserved
loop-i-preserved c =
    let b = c.args.b in
    let a = c.args.a in
    let i = c.loop-i.i in
    let l = c.loop-i-test.true in
    let v = c.loop-i.invariant in
    record { few = v.few; planned = planned-next b a c.args.ready i c.loop-i.plans c.plan_of.result v.planned (omega (arith, l, v.few)) (c.plan_of.ensures ∙ ap (plan_with a (resource_at b i)) (arrival-is b a c.args.ready c.requires.0 c.requires.1 i l)) }

pub rounds-init : goal.rounds-init
rounds-init c =
    let b = c.args.b in
    let a = c.args.a in
    let k = accepted a c.args.ready c.requires.1 in
    let v = c.loop-i.invariant in
    record { few = v.few; four = k.few; led = record { soon = omega (arith, k.ready_range); led = led-start b c.requires.0 a c.args.ready }; kept = kept-none b a c.args.ready v.few k.few }

pub loop-k-init : goal.loop-k-init
loop-k-init c =
    let v = c.rounds.invariant in
    record { four = v.four; kept = v.kept; thru = through-start c.args.b c.args.a c.args.ready c.rounds.t c.rounds.starts }

pub least_start-requires : goal.least_start-requires
least_start-requires c =
    let b = c.args.b in
    let e = sym c.is_asked.ensures ∙ c.if-is_asked.true in
    let z : c.loop-i.i ≡ c.args.b.len = omega (arith, c.loop-i-test.false) in
    let planned = rw z at c.loop-i.invariant.planned in
    (c.requires.3, (c.args.ready, seeks b c.args.a c.args.ready c.rounds.t c.loop-i.plans c.loop-k.k c.requires.0 c.requires.1 c.rounds.invariant.led.soon planned c.loop-k-test.true (asked_here _ _ _ e)))

pub loop-k-preserved : goal.loop-k-preserved
loop-k-preserved c =
    let b = c.args.b in
    let a = c.args.a in
    let v = c.loop-k.invariant in
    let r = c.rounds.invariant in
    let k = c.loop-k.k in
    let l = c.loop-k-test.true in
    let z : c.loop-i.i ≡ c.args.b.len = omega (arith, c.loop-i-test.false) in
    let planned = rw z at c.loop-i.invariant.planned in
    elim c.if-is_asked.branch [
      | then-is_asked w ↦
          let here = asked_here _ _ _ (sym c.is_asked.ensures ∙ w.if-is_asked.true) in
          let s = seeks b a c.args.ready c.rounds.t c.loop-i.plans k c.requires.0 c.requires.1 r.led.soon planned l here in
          let n = asked-next b c.requires.0 r.few a c.args.ready c.requires.1 c.rounds.t c.loop-k.asked c.loop-k.starts v.kept k l v.thru (omega (arith, l, v.four)) here _ (w.least_start.ensures c.args.ready s) in
          rw (w.asked-is, w.starts-is, w.unwrap_or.ensures) (record { four = v.four; kept = n.0; thru = n.1 })
      | else-is_asked w ↦
          rw (w.asked-is, w.starts-is) (record { four = v.four; kept = v.kept; thru = cell-known b c.requires.0 r.few a c.args.ready c.requires.1 c.rounds.t c.loop-k.asked c.loop-k.starts v.kept k l v.thru (sym c.is_asked.ensures ∙ w.if-is_asked.false) })
    ]

pub settled-requires : goal.settled-requires
settled-requires c = (c.rounds.invariant.few, (c.args.ready, c.requires.1), c.requires.2)

pub returns-in-Break : goal.returns-in-Break
returns-in-Break c =
    let z : c.loop-i.i ≡ c.args.b.len = omega (arith, c.loop-i-test.false) in
    let planned = rw z at c.loop-i.invariant.planned in
    let e : c.loop-k.k ≡ 16 * c.args.a.len = omega (arith, c.loop-k-test.false) in
    let r = c.rounds.invariant in
    let o = answers c.args.b c.args.a c.args.ready c.rounds.t c.loop-i.plans c.loop-k.starts c.requires.0 c.requires.1 r.few r.led.soon planned (rw e at c.loop-k.invariant.thru) in
    let w = c.in-Break.ensures c.args.b c.args.ready o r.led.led in
    (w.so, w.chosen)

pub rounds-smaller : goal.rounds-smaller
rounds-smaller c =
    let z : c.loop-i.i ≡ c.args.b.len = omega (arith, c.loop-i-test.false) in
    let planned = rw z at c.loop-i.invariant.planned in
    let e : c.loop-k.k ≡ 16 * c.args.a.len = omega (arith, c.loop-k-test.false) in
    let r = c.rounds.invariant in
    let o = answers c.args.b c.args.a c.args.ready c.rounds.t c.loop-i.plans c.loop-k.starts c.requires.0 c.requires.1 r.few r.led.soon planned (rw e at c.loop-k.invariant.thru) in
    (c.in-Continue.ensures c.args.b c.args.ready o r.led.led).1

pub rounds-preserved : goal.rounds-preserved
rounds-preserved c =
    let z : c.loop-i.i ≡ c.args.b.len = omega (arith, c.loop-i-test.false) in
    let planned = rw z at c.loop-i.invariant.planned in
    let e : c.loop-k.k ≡ 16 * c.args.a.len = omega (arith, c.loop-k-test.false) in
    let r = c.rounds.invariant in
    let o = answers c.args.b c.args.a c.args.ready c.rounds.t c.loop-i.plans c.loop-k.starts c.requires.0 c.requires.1 r.few r.led.soon planned (rw e at c.loop-k.invariant.thru) in
    record { few = r.few; four = r.four; led = (c.in-Continue.ensures c.args.b c.args.ready o r.led.led).0; kept = c.loop-k.invariant.kept }
