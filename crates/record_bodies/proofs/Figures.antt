-- A little-endian number byte by byte from its end.
use mathlib.Core.Path.{◌≡◌}
use mathlib.Core.List.{List}
use Prim.Native.Nat.{ℕ, suc, ◌+◌, ◌*◌, ◌-◌, ◌^◌, ◌≤◌, ◌<◌}
use native.Mathlib.Nat.{pow-le-pow_right}
use native.Mathlib.Omega.{arith}
use lib.ListN.{get_or}
use Rattle.record_bodies.specs.Numbers.{little}

pub little_step : (bs : List ℕ) (at k n v : ℕ) → 0 < k → k ≤ n → v ≡ little bs (at + k) (n - k)
    → v * 256 + get_or bs (at + (k - 1)) 0 ≡ little bs (at + (k - 1)) (n - (k - 1))
unfolding little
little_step bs at k n v p h e =
    let m : n - (k - 1) ≡ suc (n - k) = omega arith in
    let i : at + k ≡ suc (at + (k - 1)) = omega arith in
    let e' : v ≡ little bs (suc (at + (k - 1))) (n - k) = rw i at e in
    rw m (omega arith)

pub little-none : (bs : List ℕ) (i n : ℕ) → 0 ≡ little bs i (n - n)
unfolding little
little-none bs i n = let e : n - n ≡ 0 = omega arith in rw e

pub little-end : (bs : List ℕ) (at k n v : ℕ) → k ≡ 0 → v ≡ little bs (at + k) (n - k) → v ≡ little bs at n
little-end bs at k n v z e =
    let a : at + k ≡ at = omega arith in
    let b : n - k ≡ n = omega arith in
    rw (a, b) at e

pub small-none : (n : ℕ) → 0 < 256 ^ (n - n)
small-none n = let e : n - n ≡ 0 = omega arith in rw e (omega arith)

pub small-end : (k n v : ℕ) → k ≡ 0 → v < 256 ^ (n - k) → v < 256 ^ n
small-end k n v z l = let b : n - k ≡ n = omega arith in rw b at l

pub small-step : (k n v b : ℕ) → 0 < k → k ≤ n → v < 256 ^ (n - k) → b < 256 → v * 256 + b < 256 ^ (n - (k - 1))
small-step k n v b p h l s =
    let m : n - (k - 1) ≡ suc (n - k) = omega arith in
    rw m (omega arith)

pub room : (k n v b : ℕ) → 0 < k → k ≤ n → n ≤ 8 → v < 256 ^ (n - k) → b < 256 → v * 256 + b < 2 ^ 64
room k n v b p h e l s =
    let q : 256 ^ (n - k) ≤ 256 ^ 7 = pow-le-pow_right {n = 256} (omega arith) {i = n - k} {j = 7} (omega arith) in
    omega arith
