-- The least instant at which a test passes: the one search that every 'least' of document 01 is, and what it is to be the least; and the
-- greatest of a list.
use Rattle.std.specs.Prelude.{ℕ, zero, suc, max, ◌≤◌, ◌<◌, Bool, true, false, List, [], ◌∷◌, ◌≡◌}

-- an instant, or 01's 'none' and 'nothing'
pub data Found : Type 0 where
  nothing : Found
  at : ℕ → Found

-- there is one
unfoldable pub is_at : Found → Bool
is_at nothing = false
is_at (at x) = true

-- which one; 0 where there is none
unfoldable pub when : Found → ℕ
when nothing = 0
when (at x) = x

-- the first of the n instants from `from` on at which P holds
unfoldable pub least_from : (ℕ → Bool) → ℕ → ℕ → Found
least_from P from zero = nothing
least_from P from (suc n) = elim (P from) [ true ↦ at from | false ↦ least_from P (suc from) n ]

-- the greatest of a list, 0 where it is empty
unfoldable pub greatest_of : List ℕ → ℕ
greatest_of [] = 0
greatest_of (x ∷ xs) = max x (greatest_of xs)

-- s is the least instant at or after `from` at which P holds
pub record Earliest (P : ℕ → Bool) (from s : ℕ) : Type 0 where
  pub low : from ≤ s
  pub holds : P s ≡ true
  pub first : (x : ℕ) → from ≤ x → x < s → P x ≡ false

-- the least instant at or after `from` at which P holds, and nothing only if it holds at none, however late
abbrev pub Answers : (ℕ → Bool) → ℕ → Found → Type 0
Answers P from nothing = (x : ℕ) → from ≤ x → P x ≡ false
Answers P from (at s) = Earliest P from s
