-- The plainest terms, in which Theorems/ says what the definitions amount to: open, unbroken, worked, and where work ends.
use Rattle.std.specs.Prelude.{◌≡◌, Bool, cond, ◌⊎◌, ℕ, ◌≤◌, ◌<◌, zero, suc, ◌+◌, ◌-◌, get_or}
use Rattle.calendar.specs.declared.Calendar.{Calendar}
use Rattle.calendar.specs.Spans.{Span, span_at}

-- A is said of some window, or there are none, and B of each block.
pub record Open (A B : Span → Type 0) (c : Calendar) : Type 0 where
  pub window : (c.windows.len ≡ 0) ⊎ ((k : ℕ) × (k < c.windows.len) × A (span_at c.windows k))
  pub blocks : (k : ℕ) → k < c.blocks.len → B (span_at c.blocks k)

-- [s, e) fits: one single window holds it, or there are none, and each block begins after it or ends before it.
abbrev pub Unbroken : Calendar → ℕ → ℕ → Type 0
Unbroken c s e = Open (λ w. (w.start ≤ s) × (e ≤ w.end)) (λ b. (e ≤ b.start) ⊎ (b.end ≤ s)) c

-- p is worked: some window contains it, or there are none, and each block begins after it or has ended.
abbrev pub Working : Calendar → ℕ → Type 0
Working c p = Open (λ w. (w.start ≤ p) × (p < w.end)) (λ b. (p < b.start) ⊎ (b.end ≤ p)) c

-- The working milliseconds among the n from p on.
unfoldable pub worked : (ℕ → Bool) → ℕ → ℕ → ℕ
worked W p zero = 0
worked W p (suc n) = cond (W p) 1 0 + worked W (suc p) n

-- e is the least end with w working milliseconds of W between p and it, so one past the last of them
pub record Ends (W : ℕ → Bool) (p w e : ℕ) : Type 0 where
  pub low : p ≤ e
  pub done : worked W p (e - p) ≡ w
  pub first : (y : ℕ) → p ≤ y → y < e → worked W p (y - p) < w

-- no window starts and no block ends at x
pub record Quiet (c : Calendar) (x : ℕ) : Type 0 where
  pub windows : (k : ℕ) → k < c.windows.len → get_or c.windows.starts k 0 ≡ x → ⊥
  pub blocks : (k : ℕ) → k < c.blocks.len → get_or c.blocks.ends k 0 ≡ x → ⊥
