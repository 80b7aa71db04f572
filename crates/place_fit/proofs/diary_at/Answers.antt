-- `place_fit::diary_at` meets its contract.
use Rattle.std.proofs.Common.{arith}
use Rattle.place_fit.proofs.Reading.{entry-small, read-share}
use Rattle.place_fit.proofs.diary_at.Goals as goal

pub offset_bounds-places-from : goal.offset_bounds-places-from
offset_bounds-places-from c =
    let s = (entry-small c.args.b.now c.args.e.now.entries c.args.e.now.count c.args.own.now c.args.places.now c.requires.0 c.args.i (omega (arith, c.if-i-eq0.false)) c.requires.1).0 in
    record { fits = omega (arith, c.from.ensures) }

pub bounds-places-from : goal.bounds-places-from
bounds-places-from c = rw c.from.ensures (entry-small c.args.b.now c.args.e.now.entries c.args.e.now.count c.args.own.now c.args.places.now c.requires.0 c.args.i (omega (arith, c.if-i-eq0.false)) c.requires.1).0

pub offset_bounds-b-places : goal.offset_bounds-b-places
offset_bounds-b-places c =
    let s = (entry-small c.args.b.now c.args.e.now.entries c.args.e.now.count c.args.own.now c.args.places.now c.requires.0 c.args.i (omega (arith, c.if-i-eq0.false)) c.requires.1).1 in
    rw c.from.ensures (record { fits = omega arith })

pub bounds-b-places : goal.bounds-b-places
bounds-b-places c = rw c.from.ensures (entry-small c.args.b.now c.args.e.now.entries c.args.e.now.count c.args.own.now c.args.places.now c.requires.0 c.args.i (omega (arith, c.if-i-eq0.false)) c.requires.1).1

pub returns : goal.returns
returns c = rw c.from.ensures (read-share c.args.b.now c.args.e.now.entries c.args.e.now.count c.args.own.now c.args.places.now c.requires.0 c.args.i (omega (arith, c.if-i-eq0.false)) c.requires.1)
