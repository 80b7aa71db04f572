use Rattle.std.proofs.Common.{◌≡◌, ◌++◌, List, None, length, get_or, take, map, refl, sym, ap, ◌∙◌, arith}
use lib.ListN.{length-set}
use lib.Seq.{take-length}
use Rattle.std.specs.Option.{unwrap_or}
use Rattle.board.specs.Laws.Facts.{rules_of}
use Rattle.scheduler.specs.declared.Selection.{Selection}
use Rattle.scheduler.specs.Fitting.{all_companions}
use Rattle.scheduler.specs.Selections.{no_selection, held_of, held_to}
use Rattle.cells.specs.Every.{each_end}
use Rattle.cells.specs.Laws.Basics.{filled_next}
use Rattle.place_plans.specs.declared.Plan.{Plan}
use Rattle.place_plans.specs.Plans.{no_plan, plan_with}
use Rattle.place_entries.proofs.Parting.{setup-kept, companions-next, plan-companions}
use Rattle.place_entries.proofs.parts_of.Goals as goal

pub loop-i-init : goal.loop-i-init
unfolding all_companions
loop-i-init c = record {
  long = refl;
  wide = refl;
  named = λ k l. absurd (omega arith);
  kept = λ k l. absurd (omega arith);
  few = omega arith;
  small = each_end;
  all = λ b a ready t. refl;
}

pub offset_bounds-plans-h : goal.offset_bounds-plans-h
offset_bounds-plans-h c =
    let t = c.requires.1 in
    record { fits = omega (arith, t.3.places.stands c.loop-i.i c.loop-i-test.true, (rules_of t.0 t.3.right).few) }

pub bounds-plans-h : goal.bounds-plans-h
bounds-plans-h c =
    let t = c.requires.1 in
    omega (arith, t.3.places.stands c.loop-i.i c.loop-i-test.true, (rules_of t.0 t.3.right).few)

pub shared_ref_as_front-push_each : goal.shared_ref_as_front-push_each
shared_ref_as_front-push_each c =
    let t = c.requires.1 in
    (plan-companions t.0 t.1 t.2 _ _ t.3 c.loop-i.i c.loop-i-test.true).0

pub push_each-companions-requires : goal.push_each-companions-requires
push_each-companions-requires c =
    let t = c.requires.1 in
    let v = c.loop-i.invariant in
    let r = plan-companions t.0 t.1 t.2 _ _ t.3 c.loop-i.i c.loop-i-test.true in
    (omega (arith, r.2, v.few, c.requires.0), v.small, r.1)

pub loop-i-preserved : goal.loop-i-preserved
unfolding plan_with
loop-i-preserved c =
    let t = c.requires.1 in
    let v = c.loop-i.invariant in
    let i = c.loop-i.i in
    let l = c.loop-i-test.true in
    let plans = c.args.plans.now in
    let held = c.args.held.now in
    let r = plan-companions t.0 t.1 t.2 plans held t.3 i l in
    let e = c.push_each-companions.ensures in record {
      long = length-set c.loop-i.numbers i _ ∙ v.long;
      wide = length-set c.loop-i.setups i _ ∙ v.wide;
      named = filled_next (λ k. (get_or plans (get_or held k no_selection).place no_plan).number) c.loop-i.numbers i _ 0 (omega (arith, v.long, c.requires.0)) v.named refl;
      kept = filled_next (λ k. (get_or plans (get_or held k no_selection).place no_plan).setup) c.loop-i.setups i _ None (omega (arith, v.wide, c.requires.0)) v.kept refl;
      few = omega (arith, e.0, r.2, v.few);
      small = e.2;
      all = λ b a ready u.
          let p = u.planned.so (get_or held i no_selection).place (u.places.stands i l) in
          e.1 ∙ rw (v.all b a ready u) (ap (λ (x : Plan). all_companions (held_to b held i) ++ take x.count x.companions) p ∙ sym (companions-next b held i l));
    }

pub returns : goal.returns
unfolding plan_with
returns c =
    let v = c.loop-i.invariant in
    let held = c.args.held.now in
    let z : c.loop-i.i ≡ length held = omega (arith, c.loop-i-test.false) in
    λ b a ready u. record {
      held = c.requires.0;
      long = v.long;
      numbers = λ k m. v.named k (omega arith) ∙ ap (λ (x : Plan). x.number) (u.planned.so _ (u.places.stands k m));
      setups = λ k m own. ap (λ o. unwrap_or o own) (v.kept k (omega arith) ∙ ap (λ (x : Plan). x.setup) (u.planned.so _ (u.places.stands k m))) ∙ setup-kept _ _ a.category own;
      companions = rw z at (v.all b a ready u) ∙ ap (λ (hs : List Selection). all_companions (map (held_of b) hs)) (take-length held);
      few = omega (arith, v.few, c.requires.0);
      small = v.small;
    }
