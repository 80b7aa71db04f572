-- `record_queries::setup` meets its contract.
use Rattle.std.proofs.Common.{◌^◌, refl, Ok, arith}
use Rattle.std.proofs.lemmas.Result.{err_from_is_err_and}
use borrow.Author.Tests.{lt-ltb, le-ltb}
use Rattle.board.specs.Places.{place_of}
use Rattle.record_queries.specs.Replies.{Setup}
use Rattle.record_queries.specs.Asks.{setup_reply}
use Rattle.record_queries.proofs.Asking.{located, refused-ask, taken-ask}
use Rattle.record_queries.proofs.setup.Goals as goal

pub returns-in_err-i : goal.returns-in_err-i
unfolding setup_reply
returns-in_err-i c =
    let p = err_from_is_err_and c.from_residual.result c.from_residual.ensures.1 in
    rw (p.1, p.2) (refused-ask (λ x. Setup x) _ _ _ _ c.in_err-i.ensures.entry)

pub returns-then-category-gt15 : goal.returns-then-category-gt15
unfolding setup_reply
returns-then-category-gt15 c =
    let q = located c.args.board c.args.number (Ok c.in_ok-i.i) c.in_ok-i.ensures.entry in
    taken-ask _ _ _ _ q.unrefused (rw (lt-ltb 15 c.args.category (omega arith)) refl)

pub returns-then-own-gt-LONGEST_DURATION : goal.returns-then-own-gt-LONGEST_DURATION
unfolding setup_reply
returns-then-own-gt-LONGEST_DURATION c =
    let q = located c.args.board c.args.number (Ok c.in_ok-i.i) c.in_ok-i.ensures.entry in
    taken-ask _ _ _ _ q.unrefused (rw (le-ltb 15 c.args.category (omega arith), lt-ltb (2 ^ 36) c.args.own (omega arith)) refl)

pub returns : goal.returns
unfolding setup_reply place_of
returns c =
    let q = located c.args.board c.args.number (Ok c.in_ok-i.i) c.in_ok-i.ensures.entry in
    taken-ask _ _ _ _ q.unrefused (rw (le-ltb 15 c.args.category (omega arith), le-ltb (2 ^ 36) c.args.own (omega arith), q.stands, c.setup_ms.ensures, c.last_of.ensures.0) refl)
