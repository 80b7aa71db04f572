-- What fits or is worked one millisecond later fits or is worked here too, unless a window starts or a block ends there.
use Rattle.std.specs.Prelude.{◌≡◌, true, ℕ, suc, ◌+◌, ◌≤◌, ◌<◌}
use Rattle.std.proofs.Common.{inl, inr, ⊎_elim, arith}
use Rattle.calendar.specs.declared.Calendar.{Calendar}
use Rattle.calendar.specs.Spans.{Span, span_at}
use Rattle.calendar.specs.Fits.{fits}
use Rattle.calendar.specs.Work.{working}
use Rattle.calendar.specs.Plain.{Open, Quiet}
use Rattle.calendar.specs.Theorems.Meaning.{fits-means, fits-is, working-means, working-is}

open-back : (A B A' B' : Span → Type 0) (c : Calendar) (x : ℕ) → Quiet c x → ((w : Span) → (w.start ≡ x → ⊥) → A w → A' w)
    → ((b : Span) → (b.end ≡ x → ⊥) → B b → B' b) → Open A B c → Open A' B' c
open-back A B A' B' c x q f g o = record {
  window = ⊎_elim (λ (z : c.windows.len ≡ 0). inl z) (λ (z : (k : ℕ) × (k < c.windows.len) × A (span_at c.windows k)). inr (z.0, z.1, f _ (q.windows z.0 z.1) z.2)) o.window;
  blocks = λ k l. g _ (q.blocks k l) (o.blocks k l);
}

pub fits-back : (c : Calendar) (x d : ℕ) → Quiet c (suc x) → fits c (suc x) (suc x + d) ≡ true → fits c x (x + d) ≡ true
fits-back c x d q t =
    fits-is c x (x + d) (open-back _ _ _ _ c (suc x) q (λ w n h. (omega (arith, n, h.0), omega (arith, h.1)))
    (λ b n h. ⊎_elim (λ (z : suc x + d ≤ b.start). inl (omega arith)) (λ (z : b.end ≤ suc x). inr (omega (arith, n))) h) (fits-means c (suc x) (suc x + d) t))

pub working-back : (c : Calendar) (x : ℕ) → Quiet c (suc x) → working c (suc x) ≡ true → working c x ≡ true
working-back c x q t =
    working-is c x (open-back _ _ _ _ c (suc x) q (λ w n h. (omega (arith, n, h.0), omega (arith, h.1)))
    (λ b n h. ⊎_elim (λ (z : suc x < b.start). inl (omega arith)) (λ (z : b.end ≤ suc x). inr (omega (arith, n))) h) (working-means c (suc x) t))
