-- What the definitions of a calendar amount to, in the plainest terms (Plain.antt): what fits, what is worked, and where joint work ends.
use Rattle.std.specs.Prelude.{◌≡◌, Bool, true, false, not, ◌&&◌, List, ◌⊎◌, ℕ, ◌≤◌, ◌<◌}
use Rattle.std.proofs.Common.{sym, ◌∙◌, inl, inr, arith}
use Rattle.std.proofs.Math.Logic.{⊎_elim}
use Rattle.std.proofs.lemmas.Bool.{not-true}
use Rattle.calendar.specs.declared.Calendar.{Calendar}
use Rattle.cells.specs.Laws.Basics.{and_split, lt-or-ge, same_or_not, not-both}
use Rattle.calendar.specs.Search.{nothing, at}
use Rattle.calendar.specs.Spans.{Span, span_at, spans, any, holds, meets, contains}
use Rattle.calendar.specs.Fits.{open_for, fits}
use Rattle.calendar.specs.Work.{working, joint, last_change, joint_end}
use Rattle.calendar.specs.Laws.Spanning.{open-some, open-by-none, open-by-some, any_some, any_none, some-any, none_any}
use Rattle.calendar.specs.Laws.Spanning.{holds-yes, holds-facts, meets-yes, meets-no, contains-yes, contains-no, contains-facts}
use Rattle.calendar.specs.Plain.{worked, Ends, Open, Unbroken, Working}
use Rattle.calendar.specs.Laws.WorkEnds.{work-end-found, work-end-none, joint-changeless}

-- both tests are of this shape: P of some window, Q of no block
module _ (P Q : Span → Bool) (A B : Span → Type 0) (c : Calendar) where
  open-means : ((w : Span) → P w ≡ true → A w) → ((b : Span) → Q b ≡ false → B b) → open_for P (spans c.windows) && not (any Q (spans c.blocks)) ≡ true → Open A B c
  open-means f g t =
      let w = c.windows in
      let h = and_split (open_for P (spans w)) (not (any Q (spans c.blocks))) t in
      let some : (w.len ≡ 0 → ⊥) → (k : ℕ) × (k < w.len) × A (span_at w k) = λ z.
      let r = any_some P w w.len (sym (open-some P w z) ∙ h.0) in (r.0, r.1, f _ r.2) in
      record {
        window = ⊎_elim (λ (z : w.len ≡ 0). inl z) (λ (z : 0 ≡ w.len → ⊥). inr (some (λ e. z (sym e)))) (same_or_not w.len 0);
        blocks = λ k l. g _ (any_none Q c.blocks c.blocks.len (not-true (any Q (spans c.blocks)) h.1) k l);
      }

  open_is : ((w : Span) → A w → P w ≡ true) → ((b : Span) → B b → Q b ≡ false) → Open A B c → open_for P (spans c.windows) && not (any Q (spans c.blocks)) ≡ true
  open_is f g o = go o.window
    where
      none : any Q (spans c.blocks) ≡ false
      none = none_any Q c.blocks c.blocks.len (λ k l. g _ (o.blocks k l))

      go : (c.windows.len ≡ 0) ⊎ ((k : ℕ) × (k < c.windows.len) × A (span_at c.windows k)) → open_for P (spans c.windows) && not (any Q (spans c.blocks)) ≡ true
      go (inl z) = sym (open-by-none P Q c.windows c.blocks none z)
      go (inr y) = sym (open-by-some P Q c.windows c.blocks none (λ e. omega (arith, y.1))) ∙ some-any P c.windows c.windows.len y.0 y.1 (f _ y.2)

-- a block that does not meet [s, e), and one that does not contain p
apart : (s e : ℕ) (b : Span) → meets s e b ≡ false → (e ≤ b.start) ⊎ (b.end ≤ s)
apart s e b h =
    ⊎_elim
    (λ (z : b.start < e). inr (⊎_elim (λ (y : s < b.end). absurd (not-both _ (meets-yes s e b z y) h)) (λ (y : b.end ≤ s). y) (lt-or-ge s b.end)))
    (λ (z : e ≤ b.start). inl z)
    (lt-or-ge b.start e)

outside : (p : ℕ) (b : Span) → contains p b ≡ false → (p < b.start) ⊎ (b.end ≤ p)
outside p b h =
    ⊎_elim
    (λ (z : p < b.start). inl z)
    (λ (z : b.start ≤ p). inr (⊎_elim (λ (y : p < b.end). absurd (not-both _ (contains-yes p b z y) h)) (λ (y : b.end ≤ p). y) (lt-or-ge p b.end)))
    (lt-or-ge p b.start)

module _ (c : Calendar) (s e : ℕ) where
  pub fits-means : fits c s e ≡ true → Unbroken c s e
  unfolding fits
  fits-means t = open-means (holds s e) (meets s e) _ _ c (holds-facts s e) (apart s e) t

  pub fits-is : Unbroken c s e → fits c s e ≡ true
  unfolding fits
  fits-is u =
      open_is (holds s e) (meets s e) _ _ c (λ w h. holds-yes s e w h.0 h.1)
      (λ b h. meets-no s e b (λ x y. ⊎_elim (λ (z : e ≤ b.start). omega arith) (λ (z : b.end ≤ s). omega arith) h)) u

module _ (c : Calendar) (p : ℕ) where
  pub working-means : working c p ≡ true → Working c p
  unfolding working
  working-means t = open-means (contains p) (contains p) _ _ c (contains-facts p) (outside p) t

  pub working-is : Working c p → working c p ≡ true
  unfolding working
  working-is u =
      open_is (contains p) (contains p) _ _ c (λ w h. contains-yes p w h.0 h.1)
      (λ b h. contains-no p b (λ x y. ⊎_elim (λ (z : p < b.start). omega arith) (λ (z : b.end ≤ p). omega arith) h)) u

-- `work_end` of some calendars: the least end with w joint working milliseconds before it, and nothing only where there is none.
pub joint-end-found : (cs : List Calendar) (p w e : ℕ) → joint_end cs p w ≡ at e → (joint cs p ≡ true) × Ends (joint cs) p w e
joint-end-found cs p w e q = work-end-found (last_change cs) (joint cs) p w e q

pub joint-end-none : (cs : List Calendar) (p w : ℕ) → joint_end cs p w ≡ nothing → (joint cs p ≡ false) ⊎ ((n : ℕ) → worked (joint cs) p n < w)
joint-end-none cs p w q = work-end-none (last_change cs) (joint cs) p w (joint-changeless cs) q
