use Rattle.std.proofs.Common.{ℕ, ap, arith, rules}
use Rattle.activity.specs.Laws.Judging.{accepted}
use Rattle.board.specs.Laws.Facts.{rules_of}
use Rattle.board.specs.Theorems.Meaning.{resource-of}
use Rattle.place_plans.specs.declared.Plan.{Plan}
use Rattle.place_plans.specs.Plans.{plan_with}
use Rattle.place_rounds.specs.Tables.{requirement_at}
use Rattle.place_choice.specs.Seeking.{Seeks}
use Rattle.place_choice.proofs.Asking.{Told, ToldBy, going_start, number-range, companions-range, span_small, diary-kept, there, units-some, from-small, place-nowhere, told-asked, next-of}
use Rattle.place_choice.proofs.least_start.Goals as goal
use Rattle.place_choice.proofs.least_start.Goals.{In_ok-g}

pub loop-g-init : goal.loop-g-init
loop-g-init c =
    rw c.unasked-g.ensures
    (record { on = λ ready s z. going_start _ _ ready _ _ _ s.right s.accepted s.soon s.here; found = λ ready s z. absurd (omega arith) })

pub offset_bounds-a-j : goal.offset_bounds-a-j
offset_bounds-a-j c =
    let s = c.requires.1.1 in
    record { fits = omega (arith, s.one, (accepted c.args.a.now c.requires.1.0 s.accepted).few) }

pub bounds-a-j : goal.bounds-a-j
bounds-a-j c =
    let s = c.requires.1.1 in
    omega (arith, s.one, (accepted c.args.a.now c.requires.1.0 s.accepted).few)

pub member_of-m-requires : goal.member_of-m-requires
member_of-m-requires c =
    let b = c.args.b.now in
    let a = c.args.a.now in
    let k = c.requires.0 in
    let ready = c.requires.1.0 in
    let s = c.requires.1.1 in
    let n = next-of b a ready c.args.p.now c.args.i c.args.j c.args.t c.loop-g.g s (search rules) (search rules) (c.loop-g.invariant.on ready s c.loop-g-test.true) in
    let r = companions-range _ _ _ _ _ _ s.right s.accepted c.args.places.now k _ _ n in
    (number-range _ _ _ _ _ _ s.right s.accepted c.args.places.now k _ _ n, r.0, r.1)

pub offset_bounds-b-place : goal.offset_bounds-b-place
offset_bounds-b-place c =
    let b = c.args.b.now in
    let a = c.args.a.now in
    let k = c.requires.0 in
    let ready = c.requires.1.0 in
    let s = c.requires.1.1 in
    let n = next-of b a ready c.args.p.now c.args.i c.args.j c.args.t c.loop-g.g s (search rules) (search rules) (c.loop-g.invariant.on ready s c.loop-g-test.true) in
    record { fits = omega (arith, there _ _ _ _ _ _ s.right s.accepted c.args.places.now k _ _ n _ c.member_of-m.ensures _ c.in_ok-place.was, (rules_of b s.right).few) }

pub bounds-b-place : goal.bounds-b-place
bounds-b-place c =
    let b = c.args.b.now in
    let a = c.args.a.now in
    let k = c.requires.0 in
    let ready = c.requires.1.0 in
    let s = c.requires.1.1 in
    let n = next-of b a ready c.args.p.now c.args.i c.args.j c.args.t c.loop-g.g s (search rules) (search rules) (c.loop-g.invariant.on ready s c.loop-g-test.true) in
    omega (arith, there _ _ _ _ _ _ s.right s.accepted c.args.places.now k _ _ n _ c.member_of-m.ensures _ c.in_ok-place.was, (rules_of b s.right).few)

pub start_on-s-requires : goal.start_on-s-requires
start_on-s-requires c =
    let b = c.args.b.now in
    let a = c.args.a.now in
    let k = c.requires.0 in
    let ready = c.requires.1.0 in
    let s = c.requires.1.1 in
    let n = next-of b a ready c.args.p.now c.args.i c.args.j c.args.t c.loop-g.g s (search rules) (search rules) (c.loop-g.invariant.on ready s c.loop-g-test.true) in
    let e = c.member_of-m.ensures in
    let h = c.in_ok-place.was in
    (diary-kept _ _ _ _ _ _ s.right s.accepted c.args.places.now k _ _ n _ e _ h, from-small _ _ _ _ _ _ s.right s.accepted c.args.places.now k _ _ n _ e _ h, span_small _ _ _ _ _ _ s.right s.accepted c.args.places.now k _ _ n, units-some _ _ _ _ _ _ s.right s.accepted c.args.places.now k _ _ n _ e _ h)

pub answered-requires : goal.answered-requires
answered-requires c =
    let b = c.args.b.now in
    let a = c.args.a.now in
    let k = c.requires.0 in
    let ready = c.requires.1.0 in
    let s = c.requires.1.1 in
    let n = next-of b a ready c.args.p.now c.args.i c.args.j c.args.t c.loop-g.g s (search rules) (search rules) (c.loop-g.invariant.on ready s c.loop-g-test.true) in
    omega (arith, n.go.few, (resource-of b s.right c.args.i n.here).few)

-- what the one that was asked has answered
told : (c : In_ok-g) (ready : ℕ) → Seeks c.args.b.now c.args.a.now ready c.args.p.now c.args.i c.args.j c.args.t → Told c.args.b.now c.args.a.now ready c.args.i c.args.t (requirement_at c.args.a.now c.args.j) c.loop-g.g c.in_ok-g.g
unfolding ToldBy
told c ready s =
    let n = next-of c.args.b.now c.args.a.now ready c.args.p.now c.args.i c.args.j c.args.t c.loop-g.g s (search rules) (search rules) (c.loop-g.invariant.on ready s c.loop-g-test.true) in
    let w = told-asked _ _ _ _ _ _ s.right s.accepted c.args.places.now c.requires.0 _ _ n _ c.member_of-m.ensures _ c.in_ok-place.was _ c.start_on-s.ensures in
    rw (← c.in_ok-g.ensures) at w

pub loop-g-smaller : goal.loop-g-smaller
loop-g-smaller c = (told c c.requires.1.0 c.requires.1.1).less

pub loop-g-preserved : goal.loop-g-preserved
unfolding plan_with
loop-g-preserved c = record {
  on = λ ready s z. let e = ap (λ (p : Plan). p.count) s.plan in (told c ready s).on (rw (← e) z);
  found = λ ready s z. let e = ap (λ (p : Plan). p.count) s.plan in (told c ready s).found (rw (← e) z);
}

pub returns-in_err-place : goal.returns-in_err-place
returns-in_err-place c = λ ready s.
    let n = next-of c.args.b.now c.args.a.now ready c.args.p.now c.args.i c.args.j c.args.t c.loop-g.g s (search rules) (search rules) (c.loop-g.invariant.on ready s c.loop-g-test.true) in
    rw c.from_residual.ensures (place-nowhere _ _ _ _ _ _ s.right s.accepted c.args.places.now c.requires.0 _ _ n _ c.member_of-m.ensures c.in_err-place.was)

pub returns-in_err-g : goal.returns-in_err-g
unfolding ToldBy
returns-in_err-g c = λ ready s.
    let n = next-of c.args.b.now c.args.a.now ready c.args.p.now c.args.i c.args.j c.args.t c.loop-g.g s (search rules) (search rules) (c.loop-g.invariant.on ready s c.loop-g-test.true) in
    let w = told-asked _ _ _ _ _ _ s.right s.accepted c.args.places.now c.requires.0 _ _ n _ c.member_of-m.ensures _ c.in_ok-place.was _ c.start_on-s.ensures in
    rw c.from_residual-in_err-g.ensures (rw (← c.in_err-g.ensures) at w)

pub returns : goal.returns
returns c = λ ready s. c.loop-g.invariant.found ready s c.loop-g-test.false
