-- The records of a run one after another: a good one is taken, a bad one refuses the run.
use Rattle.std.specs.Prelude.{◌≡◌, refl, Bool, true, false, not, List, [], ◌∷◌, ◌++◌, map, ℕ, zero, suc, ◌+◌, ◌≤◌, ◌<◌, eqb, length}
use Rattle.std.proofs.Common.{sym, ap, subst, ◌∙◌, append_assoc, append-nil, arith, length-set, eqb-true, eq-eqb, ne_eqb}
use Rattle.std.proofs.lemmas.Bool.{eqb-false}
use Rattle.calendar.specs.Limits.{last_instant}
use Rattle.calendar.specs.declared.TimeWindows.{TimeWindows}
use Rattle.calendar.specs.declared.Calendar.{Calendar}
use Rattle.calendar.specs.Replies.{Added}
use Rattle.calendar.specs.Valid.{valid}
use Rattle.calendar.specs.Spans.{Span, spans}
use Rattle.calendar.specs.Laws.Spanning.{span-added}
use Rattle.calendar.specs.Add.{add_refusal, with_span, added, add_window, add_block}
use Rattle.calendar.specs.Laws.Rules.{windows-right, blocks-right}
use Rattle.calendar.specs.Laws.Adding.{Taken, taken, refuse-none, span_right, valid-join}
use Rattle.timeline_loader.specs.declared.TimeWindow.{TimeWindow}
use Rattle.timeline_loader.specs.Run.{reply, add_one, judged}
use Rattle.timeline_loader.specs.Plain.{list_of, span_of, Good, AllGood, WholeArrays, TakenWhole}

-- ---- one record
-- the calendar with one record more
abbrev grown : Bool → Calendar → TimeWindow → Calendar
grown true c w = record { windows = c.windows; blocks = with_span c.blocks w.start w.end }
grown false c w = record { windows = with_span c.windows w.start w.end; blocks = c.blocks }

abbrev pub refusal : Calendar → Bool → TimeWindow → ℕ
refusal c block w = add_refusal c (list_of block c).len w.start w.end

one-is : (c : Calendar) (block : Bool) (w : TimeWindow) → add_one c block w ≡ added (refusal c block w) c (grown block c w)
unfolding add_one add_window add_block
one-is c true w = refl
one-is c false w = refl

added-number : (n : ℕ) (c k : Calendar) → (added n c k).refusal ≡ n
unfolding added
added-number zero c k = refl
added-number (suc n) c k = refl

added_new : (n : ℕ) (c k : Calendar) → n ≡ 0 → added n c k ≡ reply 0 k
unfolding added
added_new zero c k e = refl
added_new (suc n) c k e = absurd (omega arith)

added-old : (n : ℕ) (c k : Calendar) → (n ≡ 0 → ⊥) → added n c k ≡ reply n c
unfolding added
added-old zero c k h = absurd (h refl)
added-old (suc n) c k h = refl

pub one_number : (c : Calendar) (block : Bool) (w : TimeWindow) → (add_one c block w).refusal ≡ refusal c block w
one_number c block w = ap (λ (a : Added). a.refusal) (one-is c block w) ∙ added-number (refusal c block w) c (grown block c w)

-- a good record is taken ..
pub one-new : (c : Calendar) (block : Bool) (w : TimeWindow) → (add_one c block w).refusal ≡ 0 → add_one c block w ≡ reply 0 (grown block c w)
one-new c block w e = one-is c block w ∙ added_new (refusal c block w) c (grown block c w) (sym (one_number c block w) ∙ e)

-- .. and a bad one changes nothing
pub one-old : (c : Calendar) (block : Bool) (w : TimeWindow) (n : ℕ) → refusal c block w ≡ n → (n ≡ 0 → ⊥) → add_one c block w ≡ reply n c
one-old c block w n e h =
    subst (λ (m : ℕ). (m ≡ 0 → ⊥) → add_one c block w ≡ reply m c) e (λ g. one-is c block w ∙ added-old (refusal c block w) c (grown block c w) g) h

one-taken : (c : Calendar) (block : Bool) (w : TimeWindow) → (add_one c block w).refusal ≡ 0 → Taken c (list_of block c).len w.start w.end
one-taken c block w e = taken c (list_of block c).len w.start w.end (sym (one_number c block w) ∙ e)

one-good : (c : Calendar) (block : Bool) (w : TimeWindow) → valid c ≡ true → Good w → (list_of block c).len < 32 → (add_one c block w).refusal ≡ 0
one-good c block w v g l =
    let a : w.start ≤ last_instant = omega (arith, g.0, g.1) in
    one_number c block w ∙ sym (refuse-none c (list_of block c).len w.start w.end v a g.0 g.1 l)

-- ---- the calendar with one record more
grown-list : (c : Calendar) (block : Bool) (w : TimeWindow) → list_of block (grown block c w) ≡ with_span (list_of block c) w.start w.end
grown-list c true w = refl
grown-list c false w = refl

grown-other : (c : Calendar) (block : Bool) (w : TimeWindow) → list_of (not block) (grown block c w) ≡ list_of (not block) c
grown-other c true w = refl
grown-other c false w = refl

span-cells : (l : TimeWindows) (s e : ℕ) → WholeArrays l → WholeArrays (with_span l s e)
unfolding with_span
span-cells l s e h = record { starts = simp length-set h.starts; ends = simp length-set h.ends }

grown-cells : (c : Calendar) (block : Bool) (w : TimeWindow) → WholeArrays (list_of block c) → WholeArrays (list_of block (grown block c w))
grown-cells c block w h = subst WholeArrays (sym (grown-list c block w)) (span-cells (list_of block c) w.start w.end h)

grown-len : (c : Calendar) (block : Bool) (w : TimeWindow) → (list_of block (grown block c w)).len ≡ (list_of block c).len + 1
unfolding with_span
grown-len c true w = refl
grown-len c false w = refl

grown-spans : (c : Calendar) (block : Bool) (w : TimeWindow) → WholeArrays (list_of block c) → (list_of block c).len < 32
    → spans (list_of block (grown block c w)) ≡ spans (list_of block c) ++ (span_of w ∷ [])
grown-spans c block w h l =
    ap (λ (m : TimeWindows). spans m) (grown-list c block w)
    ∙ span-added (list_of block c) w.start w.end (omega (arith, h.starts)) (omega (arith, h.ends))

grown-ruled : (c : Calendar) (block : Bool) (w : TimeWindow) → WholeArrays (list_of block c) → valid c ≡ true → Good w → (list_of block c).len < 32 → valid (grown block c w) ≡ true
grown-ruled c true w h v g l = valid-join _ (windows-right c v) (span_right c.blocks w.start w.end h.starts h.ends l g.1 g.0 (blocks-right c v))
grown-ruled c false w h v g l = valid-join _ (span_right c.windows w.start w.end h.starts h.ends l g.1 g.0 (windows-right c v)) (blocks-right c v)

-- ---- the records one after another
-- a good record, and a bad one
pub judged-good : (c : Calendar) (block : Bool) (k : Calendar) (w : TimeWindow) (ws : List TimeWindow) → (add_one k block w).refusal ≡ 0
    → judged c block k (w ∷ ws) ≡ judged c block (grown block k w) ws
unfolding judged
judged-good c block k w ws e =
    rw (judged, eq-eqb (add_one k block w).refusal 0 e) (ap (λ (a : Added). judged c block a.calendar ws) (one-new k block w e))

pub judged-bad : (c : Calendar) (block : Bool) (k : Calendar) (w : TimeWindow) (ws : List TimeWindow) → ((add_one k block w).refusal ≡ 0 → ⊥)
    → judged c block k (w ∷ ws) ≡ reply (add_one k block w).refusal c
unfolding judged
judged-bad c block k w ws h = rw (judged, ne_eqb (add_one k block w).refusal 0 h) refl

-- by whether the next record is good
pub by-record : (k : Calendar) (block : Bool) (w : TimeWindow) (P : Type 0) → ((add_one k block w).refusal ≡ 0 → P) → (((add_one k block w).refusal ≡ 0 → ⊥) → P) → P
by-record k block w P good bad = go (eqb (add_one k block w).refusal 0) refl
  where
    go : (z : Bool) → eqb (add_one k block w).refusal 0 ≡ z → P
    go true e = good (eqb-true (add_one k block w).refusal 0 e)
    go false e = bad (eqb-false (add_one k block w).refusal 0 e)

pub judged-accepted : (c : Calendar) (block : Bool) (k : Calendar) (ws : List TimeWindow) → valid k ≡ true → WholeArrays (list_of block k)
    → (list_of block k).len ≤ 32 → (judged c block k ws).refusal ≡ 0 → TakenWhole k block ws (judged c block k ws).calendar
unfolding judged
judged-accepted c block k [] v h m e = record { good = tt; room = omega arith; list = sym (append-nil (spans (list_of block k))); other = refl; ruled = v }
judged-accepted c block k (w ∷ ws) v h m e =
    by-record k block w (TakenWhole k block (w ∷ ws) (judged c block k (w ∷ ws)).calendar)
    (λ z.
    let t = one-taken k block w z in
    let l : (list_of block k).len < 32 = t.place in
    let j = judged-good c block k w ws z in
    let n = grown-len k block w in
    let r = judged-accepted c block (grown block k w) ws (grown-ruled k block w h v (t.ends, t.long) l) (grown-cells k block w h) (omega (arith, n, l)) (sym (ap (λ (a : Added). a.refusal) j) ∙ e) in
    subst (λ (a : Added). TakenWhole k block (w ∷ ws) a.calendar) (sym j) (record {
      good = ((t.ends, t.long), r.good);
      room = omega (arith, n, r.room);
      list = r.list ∙ ap (λ (ss : List Span). ss ++ map span_of ws) (grown-spans k block w h l) ∙ append_assoc (spans (list_of block k)) (span_of w ∷ []) (map span_of ws);
      other = r.other ∙ grown-other k block w;
      ruled = r.ruled;
    }))
    (λ z. absurd (z (sym (ap (λ (a : Added). a.refusal) (judged-bad c block k w ws z)) ∙ e)))

pub judged-all : (c : Calendar) (block : Bool) (k : Calendar) (ws : List TimeWindow) → valid k ≡ true → WholeArrays (list_of block k) → AllGood ws
    → (list_of block k).len + length ws ≤ 32 → (judged c block k ws).refusal ≡ 0
unfolding judged
judged-all c block k [] v h g m = refl
judged-all c block k (w ∷ ws) v h g m =
    let l : (list_of block k).len < 32 = omega arith in
    ap (λ (a : Added). a.refusal) (judged-good c block k w ws (one-good k block w v g.0 l))
    ∙ judged-all c block (grown block k w) ws (grown-ruled k block w h v g.0 l) (grown-cells k block w h) g.1 (omega (arith, grown-len k block w))

pub judged-refused : (c : Calendar) (block : Bool) (k : Calendar) (ws : List TimeWindow) → ((judged c block k ws).refusal ≡ 0 → ⊥) → (judged c block k ws).calendar ≡ c
unfolding judged
judged-refused c block k [] h = absurd (h refl)
judged-refused c block k (w ∷ ws) h =
    by-record k block w ((judged c block k (w ∷ ws)).calendar ≡ c)
    (λ z.
    let j = judged-good c block k w ws z in
    ap (λ (a : Added). a.calendar) j ∙ judged-refused c block (grown block k w) ws (λ y. h (ap (λ (a : Added). a.refusal) j ∙ y)))
    (λ z. ap (λ (a : Added). a.calendar) (judged-bad c block k w ws z))

pub judged-first : (c : Calendar) (block : Bool) (k m : Calendar) (ws : List TimeWindow) (w : TimeWindow) (vs : List TimeWindow)
    → judged c block k ws ≡ reply 0 m → ((add_one m block w).refusal ≡ 0 → ⊥) → judged c block k (ws ++ (w ∷ vs)) ≡ reply (add_one m block w).refusal c
unfolding judged
judged-first c block k m [] w vs e h =
    let q : k ≡ m = ap (λ (a : Added). a.calendar) e in
    subst (λ (d : Calendar). ((add_one d block w).refusal ≡ 0 → ⊥) → judged c block k (w ∷ vs) ≡ reply (add_one d block w).refusal c) q (judged-bad c block k w vs) h
judged-first c block k m (x ∷ ws) w vs e h =
    by-record k block x (judged c block k ((x ∷ ws) ++ (w ∷ vs)) ≡ reply (add_one m block w).refusal c)
    (λ z. judged-good c block k x (ws ++ (w ∷ vs)) z ∙ judged-first c block (grown block k x) m ws w vs (sym (judged-good c block k x ws z) ∙ e) h)
    (λ z. absurd (z (ap (λ (a : Added). a.refusal) (sym (judged-bad c block k x ws z) ∙ e))))
