use Rattle.std.proofs.Common.{arith, rules, sym, ◌∙◌, refl}
use native.Mathlib.Nat.{sub-zero}
use Rattle.calendar.specs.Laws.Spanning.{any-stop, any-more, any-done}
use Rattle.calendar_fits.proofs.any_span.Goals as goal

pub loop-i-init : goal.loop-i-init
loop-i-init g c = λ P t. rw (sub-zero c.args.l.len) refl

pub returns-then-test : goal.returns-then-test
returns-then-test g c = λ P t. any-stop P _ (c.loop-i.invariant P t) (omega arith) (sym (t _ _ _ (search rules) (search rules) c.test.ensures) ∙ c.if-test.true)

pub loop-i-preserved : goal.loop-i-preserved
loop-i-preserved g c = λ P t. any-more P _ (c.loop-i.invariant P t) (omega arith) (sym (t _ _ _ (search rules) (search rules) c.test.ensures) ∙ c.if-test.false)

pub returns : goal.returns
returns g c = λ P t. any-done P _ (c.loop-i.invariant P t) (omega arith)
