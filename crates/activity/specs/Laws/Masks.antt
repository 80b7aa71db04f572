-- Required skills as masks.
use Rattle.std.specs.Prelude.{◌≡◌, ℕ, zero, suc, ◌/◌, ◌%◌, ◌^◌, ◌<◌, Bool, true, false, leb, ◌≢◌, bit_and, nat_eq, nat_le}
use Rattle.std.specs.Prelude.{refl}
use Rattle.std.proofs.Common.{pow-suc, arith, le-leb, leb-true, sym, eqb-true}
use Rattle.std.proofs.lemmas.Bool.{eqb-false}
use Rattle.std.specs.Int.Bits.{and_step, and_zero_l}
use Rattle.cells.specs.Laws.Basics.{and_split}
use Rattle.activity.specs.Serving.{covers}

-- a and b is a: every bit of a is set in b
pub covers-yes : (n a b : ℕ) → bit_and a b ≡ a → covers n a b ≡ true
unfolding covers
covers-yes zero a b e = refl
covers-yes (suc n) a b e =
    let p : leb (a % 2) (b % 2) ≡ true = le-leb (a % 2) (b % 2) (omega (arith, and_step a b)) in
    let q : covers n (a / 2) (b / 2) ≡ true = covers-yes n (a / 2) (b / 2) (omega (arith, and_step a b)) in
    rw (p, q)

covers-back : (n a b : ℕ) → a < 2 ^ n → covers n a b ≡ true → bit_and a b ≡ a
unfolding covers
covers-back zero a b lt e =
    let z : a ≡ 0 = omega arith in
    rw z (and_zero_l b)
covers-back (suc n) a b lt e =
    let w = and_split (nat_le (a % 2) (b % 2)) (covers n (a / 2) (b / 2)) e in
    omega (arith, and_step a b, leb-true (a % 2) (b % 2) w.0, covers-back n (a / 2) (b / 2) (omega (arith, pow-suc 2 n)) w.1)

pub covers-no : (n a b : ℕ) → a < 2 ^ n → (bit_and a b ≢ a) → covers n a b ≡ false
covers-no n a b lt ne = go (covers n a b) refl
  where
    go : (t : Bool) → covers n a b ≡ t → t ≡ false
    go true e = absurd (ne (covers-back n a b lt e))
    go false e = refl

-- the test of the code
pub covers-mask : (n a b : ℕ) → a < 2 ^ n → nat_eq (bit_and a b) a ≡ covers n a b
covers-mask n a b lt = go (nat_eq (bit_and a b) a) refl
  where
    go : (t : Bool) → nat_eq (bit_and a b) a ≡ t → t ≡ covers n a b
    go true e = sym (covers-yes n a b (eqb-true (bit_and a b) a e))
    go false e = sym (covers-no n a b lt (eqb-false (bit_and a b) a e))
