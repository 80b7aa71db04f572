use Rattle.std.proofs.Common.{◌≡◌, ℕ, ◌+◌, ◌≤◌, ◌<◌, true, false, List, ◌∷◌, length, refl, sym, ap, ◌∙◌, subst, arith}
use Rattle.calendar.specs.declared.Calendar.{Calendar}
use Rattle.calendar.specs.Search.{Found, nothing, at}
use Rattle.timeline.specs.declared.ResourceTimeline.{ResourceTimeline}
use Rattle.timeline.specs.Valid as timeline
use Rattle.timeline.specs.Earliest.{earliest_fit}
use Rattle.timeline.specs.Ask as asking
use Rattle.timeline.specs.Ask.{unbroken}
use Rattle.scheduler.specs.Alone.{Share, earliest_of}
use Rattle.scheduler.specs.Fitting.{fitting, end_of}
use Rattle.scheduler.specs.Shares.{start_on, own_share}
use Rattle.scheduler.specs.Laws.Owning.{suits_on, least_on, fitting-on}
use Rattle.scheduler.specs.Laws.Asking.{asked-start, asked-on, asked-none, asked-listed, asked-less, listed-among, asked-all}
use Rattle.place_fit.specs.Closing.{with_end, closing, fit_of}
use Rattle.place_fit.specs.Asks.{those}
use Rattle.place_fit.proofs.Reading.{instants, asks-own, asks-long, asks-sound, asks-kept, asks-some}
use Rattle.place_fit.proofs.fit_unbroken.Goals as goal

start-read : (d : ResourceTimeline) (u t span : ℕ) (x : Share) → record { timeline = d; units = u } ≡ x → (f : Found) → earliest_fit d t span u ≡ f → start_on false span x t ≡ f
unfolding start_on
start-read d u t span x p f e = ap (λ (y : Share). start_on false span y t) (sym p) ∙ e

answered : (span from : ℕ) (xs : List Share) (own : Calendar) (first : ResourceTimeline) → first ≡ (own_share own).timeline → (f : Found) → f ≡ earliest_of false span (record { timeline = first; units = 1 } ∷ xs) from → unbroken span f ≡ closing false xs own span from
unfolding closing with_end end_of unbroken asking.ended earliest_of least_on suits_on
answered span from xs own first e f h =
    let k : f ≡ fitting false xs own span from = rw e at h ∙ sym (fitting-on false xs own span from) in
    with-end f ∙ ap (with_end false xs own span) k
  where
    with-end : (g : Found) → unbroken span g ≡ with_end false xs own span g
    with-end nothing = refl
    with-end (at s) = refl

pub loop-i-init : goal.loop-i-init
loop-i-init c =
    let q = c.requires in
    let a = c.args in
    record { asks = asks-own a.b a.e.entries a.e.count a.places.now a.own _ c.own_timeline-first.ensures q.0 q.1 q.2 q.3; asked = asked-start _ _ _ _ q.4 }

pub diary_at-units-requires : goal.diary_at-units-requires
diary_at-units-requires c = (c.loop-i.invariant.asks, omega (arith, c.loop-i-test.true))

pub earliest_fit-requires : goal.earliest_fit-requires
earliest_fit-requires c =
    let a = c.args in
    let b = a.b in
    let k = c.loop-i in
    let es = a.e.entries in
    let n = a.e.count in
    let first = c.own_timeline-first.result in
    let places = a.places.now in
    let v = k.invariant in
    let l : k.i < n + 1 = omega (arith, c.loop-i-test.true) in
    let j = sym c.diary_at-units.ensures in record {
      t_value = (subst (λ (x : Share). timeline.valid x.timeline ≡ true) j (asks-kept b es n first places v.asks k.i l), v.asked.range, c.requires.5);
      le_units = subst (λ (x : Share). 1 ≤ x.units) j (asks-some b es n first places v.asks k.i l);
    }

pub loop-i-smaller : goal.loop-i-smaller
loop-i-smaller c =
    let a = c.args in
    let b = a.b in
    let k = c.loop-i in
    let es = a.e.entries in
    let n = a.e.count in
    let first = c.own_timeline-first.result in
    let places = a.places.now in
    let v = k.invariant in
    let l : k.i < n + 1 = omega (arith, c.loop-i-test.true) in
    let xs = those b es n first in
    let m : k.i < length xs = omega (arith, l, asks-long b es n first places v.asks) in
    let w = asks-sound b es n first places v.asks in
    let s = c.in_ok-x in
    let e = start-read _ _ k.t a.span _ c.diary_at-units.ensures _ (sym s.ensures) in
    let x = asked-listed false a.span xs a.from k.t k.i w v.asked m s.x e in
    rw c.next_asked-i.ensures (asked-less (instants b es n first) (n + 1) k.t k.t k.i s.x (omega (arith, v.asks.entries.few)) l (omega arith) x.0 (listed-among xs k.i k.t s.x x.1))

pub loop-i-preserved : goal.loop-i-preserved
loop-i-preserved c =
    let a = c.args in
    let b = a.b in
    let k = c.loop-i in
    let es = a.e.entries in
    let n = a.e.count in
    let first = c.own_timeline-first.result in
    let places = a.places.now in
    let v = k.invariant in
    let l : k.i < n + 1 = omega (arith, c.loop-i-test.true) in
    let xs = those b es n first in
    let m : k.i < length xs = omega (arith, l, asks-long b es n first places v.asks) in
    let w = asks-sound b es n first places v.asks in
    let s = c.in_ok-x in
    let e = start-read _ _ k.t a.span _ c.diary_at-units.ensures _ (sym s.ensures) in
    record { asks = v.asks; asked = rw c.next_asked-i.ensures (asked-on false a.span xs a.from k.t k.i w v.asked m s.x e) }

pub returns-in_err-x : goal.returns-in_err-x
unfolding fit_of unbroken
returns-in_err-x c =
    let a = c.args in
    let b = a.b in
    let k = c.loop-i in
    let es = a.e.entries in
    let n = a.e.count in
    let first = c.own_timeline-first.result in
    let places = a.places.now in
    let v = k.invariant in
    let l : k.i < n + 1 = omega (arith, c.loop-i-test.true) in
    let xs = those b es n first in
    let m : k.i < length xs = omega (arith, l, asks-long b es n first places v.asks) in
    let w = asks-sound b es n first places v.asks in
    let e = start-read _ _ k.t a.span _ c.diary_at-units.ensures _ (sym c.in_err-x.ensures) in
    rw c.from_residual.ensures
    (answered a.span a.from _ a.own first c.own_timeline-first.ensures nothing (asked-none false a.span xs a.from k.t k.i w v.asked m e))

pub overflow_add-result : goal.overflow_add-result
overflow_add-result c = record { fits = omega (arith, c.loop-i.invariant.asked.range, c.requires.5) }

pub returns : goal.returns
unfolding fit_of unbroken
returns c =
    let a = c.args in
    let b = a.b in
    let k = c.loop-i in
    let es = a.e.entries in
    let n = a.e.count in
    let first = c.own_timeline-first.result in
    let places = a.places.now in
    let v = k.invariant in
    let m : length (those b es n first) ≤ k.i = omega (arith, c.loop-i-test.false, asks-long b es n first places v.asks) in
    answered a.span a.from _ a.own first c.own_timeline-first.ensures (at k.t) (asked-all false a.span (those b es n first) a.from k.t k.i (asks-sound b es n first places v.asks) v.asked m)
