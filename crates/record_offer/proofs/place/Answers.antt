-- `record_offer::place` meets its contract: the entries of a placement stand on the slate.
use Rattle.std.proofs.Common.{◌≤◌, List, length, drop, map, arith, length-append}
use Rattle.std.proofs.lemmas.List.{length-map}
use Rattle.scheduler.specs.Placing.{Reply, placed, chosen_none, none, refused, slate_after, place_reply}
use Rattle.scheduler.specs.Rows.{Row, row_of}
use Rattle.placing.specs.Told as placed
use Rattle.record_offer.specs.Offers.{answer_of, placed_answer, shown}
use Rattle.record_offer.proofs.place.Goals as goal

-- the entries of a placement stand on the slate
on-slate : (r : Reply) (slate : List Row) → shown (answer_of (placed.told r)) ≤ length (slate_after r slate)
unfolding shown answer_of placed.told placed.placed_of slate_after
on-slate (placed p) slate = omega (arith, length-append (map row_of p.entries) (drop (length p.entries) slate), length-map p.entries row_of)
on-slate (chosen_none t) slate = omega arith
on-slate none slate = omega arith
on-slate (refused n) slate = omega arith

pub returns-clause-on_slate : goal.returns-clause-on_slate
unfolding placed_answer
returns-clause-on_slate c =
    let a = c.args in
    rw (c.answer_of.ensures, c.place_activity.ensures.value, c.place_activity.ensures.slate_after) (on-slate (place_reply a.desk.board a.desk.activity c.number-ready.result (length a.slate.now)) a.slate.now)
