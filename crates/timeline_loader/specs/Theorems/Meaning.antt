-- What the reply to a run amounts to: when it is taken and what then stands in the calendar, which record's number it gives when it is
-- refused, and that a run of one is a record singly.
use Rattle.std.specs.Prelude.{◌≡◌, refl, Bool, true, false, List, [], ◌∷◌, ◌++◌, map, ℕ, ◌+◌, ◌≤◌, length}
use Rattle.std.proofs.Common.{sym, ap, subst, ◌∙◌, arith, length-append}
use Rattle.std.proofs.lemmas.List.{length-map}
use Rattle.calendar.specs.Limits.{last_instant}
use Rattle.calendar.specs.declared.Calendar.{Calendar}
use Rattle.calendar.specs.Replies.{Added}
use Rattle.calendar.specs.Valid.{valid}
use Rattle.calendar.specs.Spans.{spans}
use Rattle.calendar.specs.Laws.Spanning.{spans-long}
use Rattle.calendar.specs.Laws.Rules.{right, windows-right, blocks-right}
use Rattle.calendar.specs.Laws.Adding.{refuse-15, refuse-4}
use Rattle.timeline_loader.specs.declared.TimeWindow.{TimeWindow}
use Rattle.timeline_loader.specs.Run.{reply, add_one, judged, add_run}
use Rattle.timeline_loader.specs.Plain.{list_of, span_of, Good, AllGood, WholeArrays, TakenWhole}
use Rattle.timeline_loader.specs.Laws.Judging.{one_number, one-new, one-old}
use Rattle.timeline_loader.specs.Laws.Judging.{judged-good, judged-bad, by-record, judged-accepted, judged-all, judged-refused, judged-first}

-- ---- a run
-- 15 for a calendar that breaks the rules, whatever the run
pub run-broken : (c : Calendar) (block : Bool) (ws : List TimeWindow) → valid c ≡ false → add_run c block ws ≡ reply 15 c
unfolding add_run
run-broken c block ws v = rw (add_run, v) refl

pub run-judged : (c : Calendar) (block : Bool) (ws : List TimeWindow) → valid c ≡ true → add_run c block ws ≡ judged c block c ws
unfolding add_run
run-judged c block ws v = rw (add_run, v) refl

-- only a calendar that keeps the rules takes a run
run-ruled : (c : Calendar) (block : Bool) (ws : List TimeWindow) → (add_run c block ws).refusal ≡ 0 → valid c ≡ true
run-ruled c block ws e = go (valid c) refl
  where
    go : (v : Bool) → valid c ≡ v → v ≡ true
    go true q = refl
    go false q = let z : ◌≡◌ {A = ℕ} 15 0 = ap (λ (a : Added). a.refusal) (sym (run-broken c block ws q)) ∙ e in absurd (omega arith)

-- nothing is added by an empty run
pub run-empty : (c : Calendar) (block : Bool) → valid c ≡ true → add_run c block [] ≡ reply 0 c
unfolding judged
run-empty c block v = run-judged c block [] v

-- a run of one is the record singly
pub run-one : (c : Calendar) (block : Bool) (w : TimeWindow) → add_run c block (w ∷ []) ≡ add_one c block w
unfolding judged
run-one c block w = go (valid c) refl
  where
    go : (v : Bool) → valid c ≡ v → add_run c block (w ∷ []) ≡ add_one c block w
    go false q = run-broken c block (w ∷ []) q ∙ sym (one-old c block w 15 (sym (refuse-15 c (list_of block c).len w.start w.end q)) (λ z. absurd (omega arith)))
    go true q =
        run-judged c block (w ∷ []) q
        ∙ by-record c block w (judged c block c (w ∷ []) ≡ add_one c block w)
        (λ z. judged-good c block c w [] z ∙ sym (one-new c block w z))
        (λ z. judged-bad c block c w [] z ∙ sym (one-old c block w (add_one c block w).refusal (sym (one_number c block w)) z))

-- a refused run changes nothing
pub run-refused : (c : Calendar) (block : Bool) (ws : List TimeWindow) → ((add_run c block ws).refusal ≡ 0 → ⊥) → (add_run c block ws).calendar ≡ c
run-refused c block ws h = go (valid c) refl
  where
    go : (v : Bool) → valid c ≡ v → (add_run c block ws).calendar ≡ c
    go false q = ap (λ (a : Added). a.calendar) (run-broken c block ws q)
    go true q =
        let j = run-judged c block ws q in
        ap (λ (a : Added). a.calendar) j ∙ judged-refused c block c ws (λ y. h (ap (λ (a : Added). a.refusal) j ∙ y))

-- a run that is taken is taken whole ..
pub run-accepted : (c : Calendar) (block : Bool) (ws : List TimeWindow) → WholeArrays (list_of block c) → (add_run c block ws).refusal ≡ 0
    → TakenWhole c block ws (add_run c block ws).calendar
run-accepted c block ws h e =
    let v = run-ruled c block ws e in
    let j = run-judged c block ws v in
    subst (λ (a : Added). TakenWhole c block ws a.calendar) (sym j) (judged-accepted c block c ws v h (few c block v) (sym (ap (λ (a : Added). a.refusal) j) ∙ e))
  where
    few : (c : Calendar) (block : Bool) → valid c ≡ true → (list_of block c).len ≤ 32
    few c true v = (right c.blocks (blocks-right c v)).few
    few c false v = (right c.windows (windows-right c v)).few

-- .. and it is taken if the calendar keeps the rules, its records are good and there is room for them
pub run-all : (c : Calendar) (block : Bool) (ws : List TimeWindow) → WholeArrays (list_of block c) → valid c ≡ true → AllGood ws
    → (list_of block c).len + length ws ≤ 32 → (add_run c block ws).refusal ≡ 0
run-all c block ws h v g m = ap (λ (a : Added). a.refusal) (run-judged c block ws v) ∙ judged-all c block c ws v h g m

-- the number is that of the first bad record w: those before it are taken, by m, and those after it are not looked at
pub run-first : (c : Calendar) (block : Bool) (m : Calendar) (ws : List TimeWindow) (w : TimeWindow) (vs : List TimeWindow)
    → add_run c block ws ≡ reply 0 m → ((add_one m block w).refusal ≡ 0 → ⊥)
    → add_run c block (ws ++ (w ∷ vs)) ≡ reply (add_one m block w).refusal c
run-first c block m ws w vs e h =
    let v = run-ruled c block ws (ap (λ (a : Added). a.refusal) e) in
    run-judged c block (ws ++ (w ∷ vs)) v ∙ judged-first c block c m ws w vs (sym (run-judged c block ws v) ∙ e) h

-- 4 falls on the record that would be a 33rd, where it and those before it are good, whatever follows
pub run-33rd : (c : Calendar) (block : Bool) (ws : List TimeWindow) (w : TimeWindow) (vs : List TimeWindow) → WholeArrays (list_of block c)
    → valid c ≡ true → AllGood ws → Good w → (list_of block c).len + length ws ≡ 32
    → add_run c block (ws ++ (w ∷ vs)) ≡ reply 4 c
run-33rd c block ws w vs h v g good full =
    let m = (add_run c block ws).calendar in
    let e = run-all c block ws h v g (omega (arith, full)) in
    let taken = run-accepted c block ws h e in
    let whole : add_run c block ws ≡ reply 0 m = ap (λ (n : ℕ). reply n m) e in
    let many : (list_of block m).len ≡ 32 = accepted-len c block ws m taken ∙ full in
    let a : w.start ≤ last_instant = omega (arith, good.0, good.1) in
    let four : (add_one m block w).refusal ≡ 4
    = one_number m block w ∙ sym (refuse-4 m (list_of block m).len w.start w.end taken.ruled a good.0 good.1 (omega (arith, many))) in
    run-first c block m ws w vs whole (λ z. absurd (omega (arith, four, z))) ∙ ap (λ (n : ℕ). reply n c) four
  where
    accepted-len : (c : Calendar) (block : Bool) (ws : List TimeWindow) (m : Calendar) → TakenWhole c block ws m → (list_of block m).len ≡ (list_of block c).len + length ws
    accepted-len c block ws m t =
        let a = spans-long (list_of block m) 0 (list_of block m).len in
        let b = spans-long (list_of block c) 0 (list_of block c).len in
        let d = length-map ws span_of in
        let f : length (spans (list_of block m)) ≡ length (spans (list_of block c)) + length (map span_of ws)
        = ap length t.list ∙ length-append (spans (list_of block c)) (map span_of ws) in
        omega (arith, a, b, d, f)
