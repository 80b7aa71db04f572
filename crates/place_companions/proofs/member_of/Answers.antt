-- `place_companions::member_of` meets its contract.
use borrow.Author.Tests.{lt-ltb, le-ltb}
use Rattle.std.proofs.Common.{◌≡◌, None, cond, ltb, take, sym, refl, ◌∙◌}
use Rattle.activity.specs.Serving.{serves}
use Rattle.place_companions.specs.Seats.{seat_of}
use Rattle.place_companions.specs.Members.{member_of}
use Rattle.place_companions.proofs.member_of.Goals as goal
use Rattle.place_companions.proofs.member_of.Goals.{then-g-gt0, else-g-gt0, then-serves, else-serves}

pub returns : goal.returns
unfolding member_of
returns c =
    let p = c.args.p in
    let g = c.args.g in
    let told = sym c.serves.ensures in
    let place : c.if-serves.place ≡ cond (serves c.args.q p.number p.kind p.skills) (seat_of c.args.own (take p.count p.companions) c.args.places.now g.next) None =
    elim c.if-serves.branch [ then-serves u ↦ rw (told ∙ u.if-serves.true) (u.place-is ∙ u.seat_of-place.ensures) | else-serves u ↦ rw (told ∙ u.if-serves.false) u.place-is ] in
    let units : c.if-g-gt0.result ≡ cond (ltb 0 g.next) 1 c.args.q.usage =
    elim c.if-g-gt0.branch [ then-g-gt0 u ↦ rw (lt-ltb 0 g.next u.if-g-gt0.true) u.result-is | else-g-gt0 u ↦ rw (le-ltb 0 g.next u.if-g-gt0.false) u.result-is ] in
    rw (place, units, c.later-2.ensures, c.later.ensures) refl
