-- The end of work over stretches that are worked or not.
use Rattle.std.specs.Prelude.{◌≡◌, refl, Bool, true, false, ℕ, zero, suc, ◌+◌, ◌-◌, ◌≤◌, ◌<◌}
use Rattle.std.proofs.Common.{◌∙◌, arith}
use Rattle.calendar.specs.Search.{nothing, at}
use Rattle.calendar.specs.Work.{end_from}

-- k milliseconds that are worked, and k that are not
pub run_on : (W : ℕ → Bool) (k p w n : ℕ) → k ≤ w → k ≤ n → ((q : ℕ) → p ≤ q → q < p + k → W q ≡ true) → end_from W p w n ≡ end_from W (p + k) (w - k) (n - k)
unfolding end_from
run_on W zero p w n h l f =
    let a : p + 0 ≡ p = omega arith in
    let b : w - 0 ≡ w = omega arith in
    let d : n - 0 ≡ n = omega arith in
    rw (a, b, d) refl
run_on W (suc k) p zero n h l f = absurd (omega arith)
run_on W (suc k) p (suc w) zero h l f = absurd (omega arith)
run_on W (suc k) p (suc w) (suc n) h l f =
    let a : p + suc k ≡ suc p + k = omega arith in
    let b : suc w - suc k ≡ w - k = omega arith in
    let d : suc n - suc k ≡ n - k = omega arith in
    rw (end_from, f p (omega arith) (omega arith), a, b, d) (run_on W k (suc p) w n (omega arith) (omega arith) (λ q g m. f q (omega arith) (omega arith)))

pub run-off : (W : ℕ → Bool) (k p w n : ℕ) → 0 < w → k ≤ n → ((q : ℕ) → p ≤ q → q < p + k → W q ≡ false) → end_from W p w n ≡ end_from W (p + k) w (n - k)
unfolding end_from
run-off W zero p w n h l f =
    let a : p + 0 ≡ p = omega arith in
    let d : n - 0 ≡ n = omega arith in
    rw (a, d) refl
run-off W (suc k) p zero n h l f = absurd (omega arith)
run-off W (suc k) p (suc w) zero h l f = absurd (omega arith)
run-off W (suc k) p (suc w) (suc n) h l f =
    let a : p + suc k ≡ suc p + k = omega arith in
    let d : suc n - suc k ≡ n - k = omega arith in
    rw (end_from, f p (omega arith) (omega arith), a, d) (run-off W k (suc p) (suc w) n h (omega arith) (λ q g m. f q (omega arith) (omega arith)))

-- the work is done in this stretch
pub run-done : (W : ℕ → Bool) (p w n : ℕ) → w ≤ n → ((q : ℕ) → p ≤ q → q < p + w → W q ≡ true) → end_from W p w n ≡ at (p + w)
unfolding end_from
run-done W p w n h f =
    let z : w - w ≡ 0 = omega arith in
    run_on W w p w n (omega arith) h f ∙ rw z refl

-- nothing is ever worked again
pub run-never : (W : ℕ → Bool) (p w n : ℕ) → 0 < w → ((q : ℕ) → p ≤ q → W q ≡ false) → end_from W p w n ≡ nothing
unfolding end_from
run-never W p w n h f =
    let z : n - n ≡ 0 = omega arith in
    run-off W n p w n h (omega arith) (λ q g m. f q g) ∙ rw z (none (p + n) w h)
  where
    none : (q w : ℕ) → 0 < w → end_from W q w 0 ≡ nothing
    none q zero h = absurd (omega arith)
    none q (suc w) h = refl
