use Rattle.std.proofs.Common.{rules, length, length-take, ◌≡◌, ℕ, ◌+◌, ◌≤◌, true, List, ◌∷◌, refl, sym, ap, ◌∙◌, subst, arith}
use Rattle.calendar.specs.declared.Calendar.{Calendar}
use Rattle.calendar.specs.Search.{nothing}
use Rattle.timeline.specs.declared.ResourceTimeline.{ResourceTimeline}
use Rattle.timeline.specs.Ask as asking
use Rattle.timeline.specs.Diary.{diary}
use Rattle.timeline.specs.Valid.{valid}
use Rattle.scheduler.specs.Alone.{Share}
use Rattle.scheduler.specs.Fitting.{end_of}
use Rattle.scheduler.specs.Shares.{own_share}
use Rattle.scheduler.specs.Laws.Owning.{least_on, fitting-on}
use Rattle.place_fit.specs.Closing.{with_end, closing, fit_of}
use Rattle.timeline_candidates.specs.Steps.{Event}
use Rattle.place_fit.specs.Asks.{those, share}
use Rattle.place_fit.proofs.Reading.{instants, asks-own, asks-long, asks-sound, asks-kept}
use Rattle.place_resume.proofs.Resuming.{Least}
use Rattle.place_resume.proofs.Walking.{gathers-next, gathers-front, walks-begin, walks-found, walks-on, walks-over, tried-none, tried-next, remaining-falls, event-stop}
use Rattle.place_resume.proofs.fit_resumable.Goals as goal

module _ (work from : ℕ) (xs : List Share) (own : Calendar) (first : ResourceTimeline) (e : first ≡ (own_share own).timeline) where
  answered : (x end : ℕ) → Least (share first 1 ∷ xs) work from x end → asking.fit x end ≡ closing true xs own work from
  unfolding closing with_end end_of asking.ended diary
  answered x end l =
      let k : Least (own_share own ∷ xs) work from x end = rw e at l in
      sym (ap (with_end true xs own work) (fitting-on true xs own work from ∙ k.start) ∙ ap (asking.ended x) k.end)

  answered-none : least_on true (share first 1 ∷ xs) work from ≡ nothing → asking.none ≡ closing true xs own work from
  unfolding closing with_end
  answered-none l = sym (ap (with_end true xs own work) (fitting-on true xs own work from ∙ rw e at l))

pub loop-i-init : goal.loop-i-init
loop-i-init c =
    let q = c.requires in
    let a = c.args in
    record { asks = asks-own a.b a.e.entries a.e.count a.places.now a.own _ c.own_timeline-first.ensures q.0 q.1 q.2 q.3; gathers = record { long = refl; cells = λ k h. absurd (omega arith) } }

pub loop-i-preserved : goal.loop-i-preserved
loop-i-preserved c =
    let a = c.args in
    let b = a.b in
    let es = a.e.entries in
    let n = a.e.count in
    let first = c.own_timeline-first.result in
    let places = a.places.now in
    let xs = those b es n first in
    let stops = instants b es n first in
    let v = c.loop-i.invariant in
    record { asks = v.asks; gathers = gathers-next xs (n + 1) a.work a.from stops c.loop-i.cs c.loop-i.i v.gathers (omega (arith, c.loop-i-test.true, v.asks.entries.few)) _ (let e = c.diary_at.ensures in ap (λ (s : Share). s.timeline.calendar) e) }

pub joint_time-joint-requires : goal.joint_time-joint-requires
joint_time-joint-requires c =
    let a = c.args in
    let b = a.b in
    let es = a.e.entries in
    let n = a.e.count in
    let first = c.own_timeline-first.result in
    let places = a.places.now in
    let xs = those b es n first in
    let stops = instants b es n first in
    let v = c.loop-i.invariant in
    let z : c.loop-i.i ≡ n + 1 = omega (arith, c.loop-i-test.false) in
    (omega (arith, v.asks.entries.few, length-take (n + 1) c.loop-i.cs), omega (arith, c.requires.4), gathers-front xs (n + 1) a.work a.from stops (asks-sound b es n first places v.asks) (asks-long b es n first places v.asks) _ (rw z at v.gathers) (let l = v.gathers.long in let f = v.asks.entries.few in omega arith))

pub loop-at-init : goal.loop-at-init
loop-at-init c =
    let a = c.args in
    let b = a.b in
    let es = a.e.entries in
    let n = a.e.count in
    let first = c.own_timeline-first.result in
    let places = a.places.now in
    let xs = those b es n first in
    let stops = instants b es n first in
    let v = c.loop-i.invariant in
    let z : c.loop-i.i ≡ n + 1 = omega (arith, c.loop-i-test.false) in
    let y = c.joint_time-joint.ensures in
    record { asks = v.asks; walks = walks-begin xs (n + 1) a.work a.from stops (asks-sound b es n first places v.asks) (asks-long b es n first places v.asks) c.loop-i.cs _ _ (rw z at v.gathers) (omega (arith, v.asks.entries.few)) (omega (arith, c.requires.4)) y.0 (let l : length c.joint_time-joint.result.edges ≡ 3201 = search rules in omega (arith, y.0)) y.1 }

pub loop-i-2-init : goal.loop-i-2-init
loop-i-2-init c =
    let a = c.args in
    let b = a.b in
    let es = a.e.entries in
    let n = a.e.count in
    let first = c.own_timeline-first.result in
    let places = a.places.now in
    let xs = those b es n first in
    let stops = instants b es n first in
    let v = c.loop-at.invariant in
    record { asks = v.asks; tried = tried-none xs (n + 1) a.work a.from stops (asks-sound b es n first places v.asks) (asks-long b es n first places v.asks) _ _ _ v.walks c.loop-at-test.true _ c.work_end-end.ensures }

pub free_too-end-requires : goal.free_too-end-requires
free_too-end-requires c =
    let a = c.args in
    let b = a.b in
    let es = a.e.entries in
    let n = a.e.count in
    let first = c.own_timeline-first.result in
    let places = a.places.now in
    let xs = those b es n first in
    let stops = instants b es n first in
    let v = c.loop-i-2.invariant in
    let kept = subst (λ (x : Share). valid x.timeline ≡ true) (sym c.diary_at-units.ensures) (asks-kept b es n first places v.asks c.loop-i-2.i c.loop-i-2-test.true) in
    kept

pub next_start_candidate-requires : goal.next_start_candidate-requires
next_start_candidate-requires c =
    let a = c.args in
    let b = a.b in
    let es = a.e.entries in
    let n = a.e.count in
    let first = c.own_timeline-first.result in
    let places = a.places.now in
    let xs = those b es n first in
    let stops = instants b es n first in
    let v = c.loop-i-2.invariant in
    let kept = subst (λ (x : Share). valid x.timeline ≡ true) (sym c.diary_at-units.ensures) (asks-kept b es n first places v.asks c.loop-i-2.i c.loop-i-2-test.true) in
    (kept, c.loop-at-test.true)

pub loop-i-2-preserved : goal.loop-i-2-preserved
loop-i-2-preserved c =
    let a = c.args in
    let b = a.b in
    let es = a.e.entries in
    let n = a.e.count in
    let first = c.own_timeline-first.result in
    let places = a.places.now in
    let xs = those b es n first in
    let stops = instants b es n first in
    let v = c.loop-i-2.invariant in
    let i = c.loop-i-2.i in
    let d = c.diary_at-units.result.0.now in
    let e = c.diary_at-units.ensures in
    let on = λ (y : ℕ) (l : 1 ≤ y) (o : Event d y). event-stop xs i y d (ap (λ (s : Share). s.timeline) e) l o in
    rw (c.free_too-end.ensures, c.min-next.ensures)
    (record { asks = v.asks; tried = tried-next xs (n + 1) a.work a.from stops (asks-sound b es n first places v.asks) (asks-long b es n first places v.asks) _ _ _ c.loop-at.invariant.walks c.loop-at-test.true c.loop-i-2.end c.loop-i-2.next i c.loop-i-2-test.true v.tried d c.diary_at-units.result.1 _ e on c.next_start_candidate.ensures })

pub returns-in-Some : goal.returns-in-Some
unfolding fit_of
returns-in-Some c =
    let a = c.args in
    let b = a.b in
    let es = a.e.entries in
    let n = a.e.count in
    let first = c.own_timeline-first.result in
    let places = a.places.now in
    let xs = those b es n first in
    let stops = instants b es n first in
    let v = c.loop-i-2.invariant in
    let w = c.loop-at.invariant.walks in
    let z : c.loop-i-2.i ≡ n + 1 = omega (arith, c.loop-i-2-test.false) in
    let t = rw z at v.tried in
    answered a.work a.from _ a.own first c.own_timeline-first.ensures _ _ (walks-found xs (n + 1) a.work a.from stops (asks-sound b es n first places v.asks) (asks-long b es n first places v.asks) _ _ _ w c.loop-at-test.true _ _ t _ c.in-Some.is)

pub loop-at-smaller : goal.loop-at-smaller
loop-at-smaller c =
    let a = c.args in
    let b = a.b in
    let es = a.e.entries in
    let n = a.e.count in
    let first = c.own_timeline-first.result in
    let places = a.places.now in
    let xs = those b es n first in
    let stops = instants b es n first in
    let v = c.loop-i-2.invariant in
    let w = c.loop-at.invariant.walks in
    let z : c.loop-i-2.i ≡ n + 1 = omega (arith, c.loop-i-2-test.false) in
    let t = rw z at v.tried in
    remaining-falls stops c.loop-at.at c.loop-i-2.next t.later t.most t.listed

pub loop-at-preserved : goal.loop-at-preserved
loop-at-preserved c =
    let a = c.args in
    let b = a.b in
    let es = a.e.entries in
    let n = a.e.count in
    let first = c.own_timeline-first.result in
    let places = a.places.now in
    let xs = those b es n first in
    let stops = instants b es n first in
    let v = c.loop-i-2.invariant in
    let w = c.loop-at.invariant.walks in
    let z : c.loop-i-2.i ≡ n + 1 = omega (arith, c.loop-i-2-test.false) in
    let t = rw z at v.tried in
    record { asks = v.asks; walks = walks-on xs (n + 1) a.work a.from stops (asks-sound b es n first places v.asks) (asks-long b es n first places v.asks) _ _ _ w c.loop-at-test.true _ _ t c.in_default.is }

pub returns : goal.returns
unfolding fit_of
returns c =
    let a = c.args in
    let b = a.b in
    let es = a.e.entries in
    let n = a.e.count in
    let first = c.own_timeline-first.result in
    let places = a.places.now in
    let xs = those b es n first in
    let stops = instants b es n first in
    let v = c.loop-at.invariant in
    answered-none a.work a.from _ a.own first c.own_timeline-first.ensures (walks-over xs (n + 1) a.work a.from stops (asks-sound b es n first places v.asks) (asks-long b es n first places v.asks) _ _ _ v.walks c.requires.4 c.loop-at-test.false)
