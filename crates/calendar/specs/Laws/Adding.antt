-- Adding a span: the refusals in their order, and that what is taken keeps the rules.
use Rattle.std.specs.Prelude.{◌≡◌, true, false, not, ◌||◌, ℕ, zero, suc, ◌^◌, ◌≤◌, ◌<◌, length, leb}
use Rattle.std.proofs.Math.Path.{refl}
use Rattle.std.proofs.Common.{⊎_elim, arith, get_or-set_same, get_or-set_other}
use Rattle.std.proofs.Math.Dec.{ltb}
use borrow.Author.Tests.{not-false, le-leb, lt-leb, lt-ltb, le-ltb, leb-false, ltb-false}
use Rattle.calendar.specs.declared.TimeWindows.{TimeWindows}
use Rattle.calendar.specs.declared.Calendar.{Calendar}
use Rattle.calendar.specs.Valid.{spans_right, valid}
use Rattle.calendar.specs.Add.{add_refusal, with_span, added}
use Rattle.cells.specs.Laws.Basics.{and-join, or_right, same_or_not, unrefused}
use Rattle.calendar.specs.Laws.Rules.{right, righted}

module _ (c : Calendar) (n s e : ℕ) where
  pub refuse-15 : valid c ≡ false → 15 ≡ add_refusal c n s e
  unfolding add_refusal
  refuse-15 v = simp v

  pub refuse-start : valid c ≡ true → 2 ^ 42 < s → 1 ≡ add_refusal c n s e
  unfolding add_refusal
  refuse-start v a = simp (v, lt-ltb (2 ^ 42) s a)

  pub refuse-end : valid c ≡ true → s ≤ 2 ^ 42 → 2 ^ 42 < e → 1 ≡ add_refusal c n s e
  unfolding add_refusal
  refuse-end v a b = simp (v, le-ltb (2 ^ 42) s a, lt-ltb (2 ^ 42) e b)

  pub refuse-2 : valid c ≡ true → s ≤ 2 ^ 42 → e ≤ 2 ^ 42 → e ≤ s → 2 ≡ add_refusal c n s e
  unfolding add_refusal
  refuse-2 v a b l = simp (v, le-ltb (2 ^ 42) s a, le-ltb (2 ^ 42) e b, le-leb e s l)

  pub refuse-4 : valid c ≡ true → s ≤ 2 ^ 42 → e ≤ 2 ^ 42 → s < e → 32 ≤ n → 4 ≡ add_refusal c n s e
  unfolding add_refusal
  refuse-4 v a b l m = simp (v, le-ltb (2 ^ 42) s a, le-ltb (2 ^ 42) e b, lt-leb e s l, le-leb 32 n m)

  pub refuse-none : valid c ≡ true → s ≤ 2 ^ 42 → e ≤ 2 ^ 42 → s < e → n < 32 → 0 ≡ add_refusal c n s e
  unfolding add_refusal
  refuse-none v a b l m = simp (v, le-ltb (2 ^ 42) s a, le-ltb (2 ^ 42) e b, lt-leb e s l, lt-leb 32 n m)

  -- what no refusal says
  pub record Taken : Type 0 where
    pub ruled : valid c ≡ true
    pub ends : e ≤ 2 ^ 42
    pub long : s < e
    pub place : n < 32

  pub taken : add_refusal c n s e ≡ 0 → Taken
  unfolding add_refusal
  taken z =
      let x0 = unrefused (not (valid c)) 14 _ z in
      let x1 = unrefused (ltb (2 ^ 42) s || ltb (2 ^ 42) e) 0 _ x0.1 in
      let x2 = unrefused (leb e s) 1 _ x1.1 in
      let x3 = unrefused (leb 32 n) 3 0 x2.1 in
      record {
        ruled = not-false (valid c) x0.0;
        ends = ltb-false (2 ^ 42) e (or_right (ltb (2 ^ 42) s) (ltb (2 ^ 42) e) x1.0);
        long = leb-false e s x2.0;
        place = leb-false 32 n x3.0;
      }

-- a refusal's reply, and that of a span that is taken
pub added-refused : (n m : ℕ) (c more : Calendar) → n ≡ m → (n ≡ 0 → ⊥) → record { refusal = n; calendar = c } ≡ added m c more
unfolding added
added-refused zero m c more e h = absurd (h refl)
added-refused (suc n) m c more e h = rw (← e) refl

module _ (m : ℕ) (c : Calendar) (r l : TimeWindows) (z : m ≡ 0) (e : r ≡ l) where
  pub window-taken : record { refusal = 0; calendar = record { windows = r; blocks = c.blocks } } ≡ added m c (record { windows = l; blocks = c.blocks })
  unfolding added
  window-taken = rw (z, e) refl

  pub block-taken : record { refusal = 0; calendar = record { windows = c.windows; blocks = r } } ≡ added m c (record { windows = c.windows; blocks = l })
  unfolding added
  block-taken = rw (z, e) refl

-- one span more keeps the rules
pub span_right : (l : TimeWindows) (s e : ℕ) → length l.starts ≡ 32 → length l.ends ≡ 32 → l.len < 32 → s < e → e ≤ 2 ^ 42
    → spans_right l ≡ true → spans_right (with_span l s e) ≡ true
unfolding with_span
span_right l s e a b m q z r =
    let w = right l r in
    let h : l.len < length l.starts = omega arith in
    let g : l.len < length l.ends = omega arith in
    righted _ (record {
      few = omega arith;
      cells = λ j k.
          ⊎_elim
          (λ (t : l.len ≡ j). rw (← t, get_or-set_same, get_or-set_same) (record { filled = λ u. (q, z); empty = λ u. absurd (omega arith) }))
          (λ (t : j ≡ l.len → ⊥). rw (get_or-set_other, get_or-set_other) (record { filled = λ u. (w.cells j k).filled (omega (arith, t)); empty = λ u. (w.cells j k).empty (omega arith) }))
          (same_or_not l.len j);
    })

pub valid-join : (c : Calendar) → spans_right c.windows ≡ true → spans_right c.blocks ≡ true → valid c ≡ true
unfolding valid
valid-join c a b = and-join _ _ a b
