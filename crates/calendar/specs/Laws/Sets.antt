-- Sets as masks: the test by and.
use Rattle.std.specs.Prelude.{◌≡◌, true, false, ℕ, ◌/◌, ◌^◌, eqb}
use Rattle.std.proofs.Common.{ap, sym, ◌∙◌, eq-eqb, ne_eqb}
use Rattle.std.specs.Int.Bits.{bit_and}
use Rattle.std.proofs.lemmas.Nat.{and_mask}
use Rattle.calendar.specs.Sets.{bit}

pub bit-and : (m k : ℕ) → eqb (bit_and (m / 2 ^ k) 1) 1 ≡ bit m k
unfolding bit
bit-and m k = ap (λ (r : ℕ). eqb r 1) (and_mask (m / 2 ^ k) 1)

pub bit-yes : (m k : ℕ) → bit_and (m / 2 ^ k) 1 ≡ 1 → bit m k ≡ true
bit-yes m k e = sym (bit-and m k) ∙ eq-eqb (bit_and (m / 2 ^ k) 1) 1 e

pub bit-no : (m k : ℕ) → (bit_and (m / 2 ^ k) 1 ≡ 1 → ⊥) → bit m k ≡ false
bit-no m k e = sym (bit-and m k) ∙ ne_eqb (bit_and (m / 2 ^ k) 1) 1 e
