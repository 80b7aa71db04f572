-- 01, 'Durations, setups, transport': speeds, IEEE 754 binary64 values from 0.25 to 4, and the process time at one.
use Rattle.std.specs.Prelude.{ℕ, ◌+◌, ◌*◌, ◌/◌, ◌^◌, ◌≤◌, Bool, false, not, ◌&&◌, cond, pos, negsuc, T, Float}
use Rattle.std.specs.Float.{nan, inf, fin, binary64}
use Rattle.std.specs.Float.Ieee.{up, down, le, eq, div, of_int}
use Rattle.std.specs.Float.Ieee.Exact.{HasValue}
use Rattle.std.specs.Float.Ieee.Positive.{num, den}

-- 1.0, 0.25 and 4.0
abbrev pub one : Float
one = fin false 1 (pos 0)

abbrev pub quarter : Float
quarter = fin false 1 (negsuc 1)

abbrev pub four : Float
four = fin false 1 (pos 2)

-- a speed is 0.25 to 4 (no comparison holds of a NaN)
unfoldable pub is_speed : Float → Bool
is_speed s = le quarter s && le s four

-- num / den rounded half up: the whole part of num / den + 1 / 2
unfoldable pub half_up : ℕ → ℕ → ℕ
half_up num den = (2 * num + den) / (2 * den)

-- a value's size rounded half away from zero (the Rust's `round`)
unfoldable pub round_away : Float → ℕ
round_away nan = 0
round_away (inf s) = 0
round_away (fin s m e) = half_up (m * up e) (down e)

-- a speed of exactly 1.0 gives the base; otherwise process is the base process time divided by the speed, rounded
unfoldable pub process_at : ℕ → Float → ℕ
process_at base speed = cond (eq speed one) base (round_away (div binary64 (of_int binary64 (pos base)) speed))

-- s times 2 ^ 54
unfoldable pub scaled : Float → ℕ
scaled nan = 0
scaled (inf t) = 0
scaled (fin t m e) = m * up e * 2 ^ 54 / down e

-- The result r times the speed s differs from the base by at most 0.501 times s. Over whole numbers, S being s times 2 ^ 54, and
-- whole: |r * S - base * 2 ^ 54| * 1000 ≤ 501 * S. (`single-near`: it holds of one speed held.)
pub record Near (base : ℕ) (s : Float) (r : ℕ) : Type 0 where
  pub whole : HasValue s false (scaled s) (2 ^ 54)
  pub over : 1000 * (r * scaled s) ≤ 1000 * (base * 2 ^ 54) + 501 * scaled s
  pub short : 1000 * (base * 2 ^ 54) ≤ 1000 * (r * scaled s) + 501 * scaled s

-- For the functions: a number that carries no minus sign
abbrev pub plain : Float → Bool
plain nan = false
plain (inf s) = false
plain (fin s m e) = not s

-- x is a number from 0 to n
pub record UpTo (n : ℕ) (x : Float) : Type 0 where
  pub flat : T (plain x)
  pub below : num x ≤ n * den x

-- x is a number from 4 ^ -k to 4 ^ k, as a product of k speeds is
pub record WithinPower (k : ℕ) (x : Float) : Type 0 where
  pub flat : T (plain x)
  pub above : den x ≤ num x * 4 ^ k
  pub below : num x ≤ 4 ^ k * den x
