-- One of several spans passes a test: how the loops go on, and the tests as facts; a span that is taken.
use Rattle.std.specs.Prelude.{◌≡◌, refl, Bool, true, false, not, ◌&&◌, ◌||◌, [], ◌∷◌, ◌++◌, ℕ, zero, suc, ◌+◌, ◌-◌, ◌≤◌, ◌<◌, get_or, length, leb, ltb}
use Rattle.std.proofs.Common.{sym, ap, ◌∙◌, ⊎_elim, add-one, arith, get_or-set_same, get_or-set_other, leb-true, ltb-true, le-leb, lt-ltb}
use Rattle.std.proofs.Math.Bool.{and-true, and-false, or-true, or-false, or_assoc}
use Rattle.calendar.specs.declared.TimeWindows.{TimeWindows}
use Rattle.calendar.specs.Spans.{Span, span_at, spans_from, spans, any, holds, meets, contains}
use Rattle.calendar.specs.Fits.{open_for}
use Rattle.calendar.specs.Add.{with_span}
use Rattle.cells.specs.Laws.Basics.{and_split, not-both, no_way, lt-or-ge}

-- the cells from cell i on as a list
pub spans-long : (l : TimeWindows) (i n : ℕ) → length (spans_from l i n) ≡ n
unfolding spans_from
spans-long l i zero = refl
spans-long l i (suc n) = ap suc (spans-long l (suc i) n)

span-from : (l : TimeWindows) (i n k j : ℕ) (d : Span) → k < n → i + k ≡ j → get_or (spans_from l i n) k d ≡ span_at l j
unfolding spans_from
span-from l i zero k j d h e = absurd (omega arith)
span-from l i (suc n) zero j d h e = ap (span_at l) (let f : i ≡ j = omega arith in f)
span-from l i (suc n) (suc k) j d h e = span-from l (suc i) n k j d (omega arith) (omega arith)

pub span-at : (l : TimeWindows) (k : ℕ) (d : Span) → k < l.len → get_or (spans l) k d ≡ span_at l k
span-at l k d h = span-from l 0 l.len k k d h (omega arith)

any_step : (P : Span → Bool) (l : TimeWindows) (i n : ℕ) → i < n → any P (spans_from l i (n - i)) ≡ P (span_at l i) || any P (spans_from l (i + 1) (n - (i + 1)))
unfolding any spans_from
any_step P l i n h =
    let e : n - i ≡ suc (n - (i + 1)) = omega arith in
    rw (e, add-one i)

pub any-end : (P : Span → Bool) (l : TimeWindows) (i n : ℕ) → n ≤ i → any P (spans_from l i (n - i)) ≡ false
unfolding any spans_from
any-end P l i n h =
    let e : n - i ≡ 0 = omega arith in
    rw e

-- what is left decides as all do: span i passes, fails, or there is none left
module _ (P : Span → Bool) (l : TimeWindows) {b : Bool} {i n : ℕ} (v : b ≡ any P (spans_from l i (n - i))) where
  pub any-stop : i < n → P (span_at l i) ≡ true → true ≡ b
  any-stop h e = sym (v ∙ any_step P l i n h ∙ rw e refl)

  pub any-more : i < n → P (span_at l i) ≡ false → b ≡ any P (spans_from l (i + 1) (n - (i + 1)))
  any-more h e = v ∙ any_step P l i n h ∙ rw e refl

  pub any-done : n ≤ i → false ≡ b
  any-done h = sym (v ∙ any-end P l i n h)

-- the last of n spans, taken first
pub any_last : (P : Span → Bool) (l : TimeWindows) (i n : ℕ) → any P (spans_from l i (suc n)) ≡ any P (spans_from l i n) || P (span_at l (i + n))
unfolding any spans_from
any_last P l i zero =
    let e : i + 0 ≡ i = omega arith in
    rw e (or-false (P (span_at l i)))
any_last P l i (suc n) =
    let e : i + suc n ≡ suc i + n = omega arith in
    rw (e, any_last P l (suc i) n) (sym (or_assoc (P (span_at l i)) (any P (spans_from l (suc i) n)) (P (span_at l (suc i + n)))))

-- which span it is, and that none is
pub any_some : (P : Span → Bool) (l : TimeWindows) (n : ℕ) → any P (spans_from l 0 n) ≡ true → (k : ℕ) × (k < n) × (P (span_at l k) ≡ true)
any_some P l zero t = absurd (not-both _ t (any-end P l 0 0 (omega arith)))
any_some P l (suc n) t = go (P (span_at l n)) refl (rw z at (any_last P l 0 n)) (any_some P l n)
  where
    z : 0 + n ≡ n
    z = omega arith

    go : (b : Bool) → P (span_at l n) ≡ b → any P (spans_from l 0 (suc n)) ≡ any P (spans_from l 0 n) || P (span_at l n)
        → (any P (spans_from l 0 n) ≡ true → (k : ℕ) × (k < n) × (P (span_at l k) ≡ true)) → (k : ℕ) × (k < suc n) × (P (span_at l k) ≡ true)
    go true e f ih = (n, omega arith, e)
    go false e f ih =
        let r = ih (sym (rw (e, or-false (any P (spans_from l 0 n))) at f) ∙ t) in
        (r.0, omega (arith, r.1), r.2)

pub some-any : (P : Span → Bool) (l : TimeWindows) (n k : ℕ) → k < n → P (span_at l k) ≡ true → any P (spans_from l 0 n) ≡ true
some-any P l zero k h t = absurd (omega arith)
some-any P l (suc n) k h t =
    let z : 0 + n ≡ n = omega arith in
    rw z at (any_last P l 0 n)
    ∙ ⊎_elim
    (λ (e : k < n). rw (some-any P l n k e t) refl)
    (λ (e : n ≤ k).
    let q : k ≡ n = omega arith in
    rw (← q, t) (or-true (any P (spans_from l 0 k))))
    (lt-or-ge k n)

pub any_none : (P : Span → Bool) (l : TimeWindows) (n : ℕ) → any P (spans_from l 0 n) ≡ false → (k : ℕ) → k < n → P (span_at l k) ≡ false
any_none P l n t k h = no_way _ (λ q. not-both _ (some-any P l n k h q) t)

pub none_any : (P : Span → Bool) (l : TimeWindows) (n : ℕ) → ((k : ℕ) → k < n → P (span_at l k) ≡ false) → any P (spans_from l 0 n) ≡ false
none_any P l n f = no_way _ (λ q. let r = any_some P l n q in not-both _ r.2 (f r.0 r.1))

-- the windows are open: no windows, or one of them passes
pub open_none : (P : Span → Bool) (l : TimeWindows) → l.len ≡ 0 → open_for P (spans l) ≡ true
unfolding open_for spans_from
open_none P l e = rw e refl

pub open-some : (P : Span → Bool) (l : TimeWindows) → (l.len ≡ 0 → ⊥) → open_for P (spans l) ≡ any P (spans l)
unfolding open_for spans_from
open-some P l f = go l.len f
  where
    go : (n : ℕ) → (n ≡ 0 → ⊥) → open_for P (spans_from l 0 n) ≡ any P (spans_from l 0 n)
    go zero g = absurd (g refl)
    go (suc n) g = refl

-- both halves of what fits and of what is working time: windows w that are open, and no block of b
module _ (P Q : Span → Bool) (w b : TimeWindows) where
  pub shut_by : any Q (spans b) ≡ true → false ≡ open_for P (spans w) && not (any Q (spans b))
  shut_by e = rw e (sym (and-false (open_for P (spans w))))

  pub open-by-none : any Q (spans b) ≡ false → w.len ≡ 0 → true ≡ open_for P (spans w) && not (any Q (spans b))
  open-by-none e z = rw (e, open_none P w z) refl

  pub open-by-some : any Q (spans b) ≡ false → (w.len ≡ 0 → ⊥) → any P (spans w) ≡ open_for P (spans w) && not (any Q (spans b))
  open-by-some e z = rw (e, open-some P w z) (sym (and-true (any P (spans w))))

-- the three tests, as facts
pub holds-yes : (s e : ℕ) (w : Span) → w.start ≤ s → e ≤ w.end → holds s e w ≡ true
unfolding holds
holds-yes s e w a b = simp (le-leb _ _ a, le-leb _ _ b)

pub holds-facts : (s e : ℕ) (w : Span) → holds s e w ≡ true → (w.start ≤ s) × (e ≤ w.end)
unfolding holds
holds-facts s e w t = let h = and_split (leb w.start s) (leb e w.end) t in (leb-true _ _ h.0, leb-true _ _ h.1)

pub meets-yes : (s e : ℕ) (w : Span) → w.start < e → s < w.end → meets s e w ≡ true
unfolding meets
meets-yes s e w a b = simp (lt-ltb _ _ a, lt-ltb _ _ b)

meets-facts : (s e : ℕ) (w : Span) → meets s e w ≡ true → (w.start < e) × (s < w.end)
unfolding meets
meets-facts s e w t = let h = and_split (ltb w.start e) (ltb s w.end) t in (ltb-true _ _ h.0, ltb-true _ _ h.1)

pub contains-yes : (p : ℕ) (w : Span) → w.start ≤ p → p < w.end → contains p w ≡ true
unfolding contains
contains-yes p w a b = simp (le-leb _ _ a, lt-ltb _ _ b)

pub contains-facts : (p : ℕ) (w : Span) → contains p w ≡ true → (w.start ≤ p) × (p < w.end)
unfolding contains
contains-facts p w t = let h = and_split (leb w.start p) (ltb p w.end) t in (leb-true _ _ h.0, ltb-true _ _ h.1)

pub holds-no : (s e : ℕ) (w : Span) → (w.start ≤ s → e ≤ w.end → ⊥) → holds s e w ≡ false
holds-no s e w f = no_way _ (λ t. let h = holds-facts s e w t in f h.0 h.1)

pub meets-no : (s e : ℕ) (w : Span) → (w.start < e → s < w.end → ⊥) → meets s e w ≡ false
meets-no s e w f = no_way _ (λ t. let h = meets-facts s e w t in f h.0 h.1)

pub contains-no : (p : ℕ) (w : Span) → (w.start ≤ p → p < w.end → ⊥) → contains p w ≡ false
contains-no p w f = no_way _ (λ t. let h = contains-facts p w t in f h.0 h.1)

-- A span that is taken stands behind the others.
spans-kept : (l : TimeWindows) (s e i k : ℕ) → i + k ≤ l.len → spans_from (with_span l s e) i k ≡ spans_from l i k
unfolding spans_from with_span
spans-kept l s e i zero h = refl
spans-kept l s e i (suc k) h =
    let q : i ≡ l.len → ⊥ = λ z. omega arith in
    rw (get_or-set_other l.starts l.len i s 0 q, get_or-set_other l.ends l.len i e 0 q, spans-kept l s e (suc i) k (omega arith)) refl

spans-last : (l : TimeWindows) (i k : ℕ) → spans_from l i (suc k) ≡ spans_from l i k ++ (span_at l (i + k) ∷ [])
unfolding spans_from
spans-last l i zero =
    let z : i + 0 ≡ i = omega arith in
    rw z refl
spans-last l i (suc k) =
    let z : i + suc k ≡ suc i + k = omega arith in
    rw (z, ← spans-last l (suc i) k) refl

span-new : (l : TimeWindows) (s e : ℕ) → l.len < length l.starts → l.len < length l.ends → span_at (with_span l s e) (0 + l.len) ≡ record { start = s; end = e }
unfolding with_span
span-new l s e a b =
    let z : 0 + l.len ≡ l.len = omega arith in
    rw (z, get_or-set_same l.starts l.len s 0 a, get_or-set_same l.ends l.len e 0 b) refl

len_more : (l : TimeWindows) (s e : ℕ) → (with_span l s e).len ≡ suc l.len
unfolding with_span
len_more l s e = add-one l.len

pub span-added : (l : TimeWindows) (s e : ℕ) → l.len < length l.starts → l.len < length l.ends → spans (with_span l s e) ≡ spans l ++ (record { start = s; end = e } ∷ [])
span-added l s e a b =
    ap (spans_from (with_span l s e) 0) (len_more l s e) ∙ spans-last (with_span l s e) 0 l.len ∙ rw (spans-kept l s e 0 l.len (omega arith), span-new l s e a b) refl
