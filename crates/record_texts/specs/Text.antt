-- Text in a buffer.
use Rattle.std.specs.Prelude.{◌≡◌, cond, List, [], ◌∷◌, ◌++◌, ℕ, zero, suc, ◌+◌, ◌/◌, ◌%◌, length, take, drop, ltb}

-- the decimal digits of a number of at most k + 1 digits; 48 is the digit 0
unfoldable pub decimal_to : ℕ → ℕ → List ℕ
decimal_to zero n = (48 + n) ∷ []
decimal_to (suc k) n = cond (ltb n 10) ((48 + n) ∷ []) (decimal_to k (n / 10) ++ ((48 + n % 10) ∷ []))

-- the decimal digits of a number below 10^20, without a leading zero
abbrev pub decimal : ℕ → List ℕ
decimal n = decimal_to 19 n

-- a buffer with a text in it from index i on
unfoldable pub written : List ℕ → ℕ → List ℕ → List ℕ
written buf i text = take i buf ++ text ++ drop (i + length text) buf

-- the text was put from index i on, and ends before index j
pub record Put (before : List ℕ) (i : ℕ) (text after : List ℕ) (j : ℕ) : Type 0 where
  pub bytes : after ≡ written before i text
  pub end : j ≡ i + length text
