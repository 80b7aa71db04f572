-- 01, 'Program slot': numbers in what is read, little-endian, unsigned.
use Rattle.std.specs.Prelude.{ℕ, zero, suc, ◌+◌, ◌*◌, List, get_or}

-- the number of n bytes from index i on, the least significant first
unfoldable pub little : List ℕ → ℕ → ℕ → ℕ
little bs i zero = 0
little bs i (suc n) = get_or bs i 0 + 256 * little bs (suc i) n
