-- A test that each of a list passes, or each of a run of indexes: the one 'each' of every rule and check of document 01; and what holds of
-- each element of a list, or of the elements of two lists one by one.
use Rattle.std.specs.Prelude.{Bool, true, ◌&&◌, List, [], ◌∷◌, ℕ, zero, suc}

-- each of a list passes the test
unfoldable pub every : {A : Type 0} → (A → Bool) → List A → Bool
every P [] = true
every P (x ∷ xs) = P x && every P xs

-- each of the n indexes from `from` on passes the test
unfoldable pub every_from : (ℕ → Bool) → ℕ → ℕ → Bool
every_from P from zero = true
every_from P from (suc n) = P from && every_from P (suc from) n

-- P holds of each
pub data Each {A : Type 0} (P : A → Type 0) : List A → Type 0 where
  each_end : Each P []
  each_on : {x : A} → {xs : List A} → P x → Each P xs → Each P (x ∷ xs)

-- R holds of the elements of two lists, one by one
pub data Pairs {A : Type 0} (R : A → A → Type 0) : List A → List A → Type 0 where
  pairs_end : Pairs R [] []
  pairs_on : {x y : A} → {xs ys : List A} → R x y → Pairs R xs ys → Pairs R (x ∷ xs) (y ∷ ys)
