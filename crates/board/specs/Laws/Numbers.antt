-- Durations and entries of a matrix, by sign; how a signed number is read back from its bits.
use Rattle.std.proofs.Common.{ltb-true, ltb-false, eq-eqb, ne_eqb, true≢false, sym, arith, SFits, of_z}
use Rattle.std.specs.Prelude.{true, false, ◌≡◌, refl, ℕ, ◌^◌, ◌≤◌, ◌<◌, eqb, T, ℤ, pos, negsuc, nat_abs}
use Rattle.std.specs.Int.Signed.{lt_z, le_z, non_neg}
use Rattle.std.specs.Int.{w64}
use Rattle.board.specs.Setups.{entry_or}
use Rattle.board.specs.Valid.{duration_right, entry_right, is_zero}

pub duration-below : (z : ℤ) → lt_z z (pos 0) ≡ true → duration_right z ≡ false
unfolding duration_right
duration-below (pos n) h =
    let l : n < 0 = ltb-true n 0 h in
    absurd (omega arith)
duration-below (negsuc n) h = refl

pub duration-from : (z : ℤ) → lt_z z (pos 0) ≡ false → le_z z (pos (2 ^ 36)) ≡ duration_right z
unfolding duration_right
duration-from (pos n) h = refl
duration-from (negsuc n) h = absurd (true≢false h)

pub entry-below : (z : ℤ) → lt_z z (negsuc 0) ≡ true → entry_right z ≡ false
unfolding entry_right
entry-below (pos n) h = absurd (true≢false (sym h))
entry-below (negsuc n) h =
    let l : 0 < n = ltb-true 0 n h in
    ne_eqb n 0 (λ e. omega arith)

pub entry-from : (z : ℤ) → lt_z z (negsuc 0) ≡ false → le_z z (pos (2 ^ 36)) ≡ entry_right z
unfolding entry_right
entry-from (pos n) h = refl
entry-from (negsuc n) h =
    let l : n ≤ 0 = ltb-false 0 n h in
    sym (eq-eqb n 0 (omega arith))

-- the bits of a number are 0 only for 0
pub zero_bits : (z : ℤ) → SFits w64 z → eqb (of_z w64 z) 0 ≡ is_zero z
unfolding is_zero
zero_bits (pos n) f = refl
zero_bits (negsuc n) f =
    let l : n < 2 ^ 63 = f.sfits in
    ne_eqb (of_z w64 (negsuc n)) 0 (λ e. omega arith)

-- an entry that is read as present
pub entry_absent : (z : ℤ) (other : ℕ) → lt_z z (pos 0) ≡ true → other ≡ entry_or z other
unfolding entry_or
entry_absent (pos n) other h =
    let l : n < 0 = ltb-true n 0 h in
    absurd (omega arith)
entry_absent (negsuc n) other h = refl

pub record Present (z : ℤ) (other : ℕ) : Type 0 where
  pub sign : T (non_neg z)
  pub range : nat_abs z < 2 ^ 63
  pub same : nat_abs z ≡ entry_or z other

pub entry-present : (z : ℤ) (other : ℕ) → SFits w64 z → lt_z z (pos 0) ≡ false → Present z other
unfolding entry_or
entry-present (pos n) other f h = let g : n < 2 ^ 63 = f.sfits in record { sign = tt; range = g; same = refl }
entry-present (negsuc n) other f h = absurd (true≢false h)
