-- Things compared part by part.
use Rattle.std.specs.Prelude.{◌≡◌, Bool, false}
use Rattle.std.proofs.Common.{sym, ap, ◌∙◌}
use Rattle.std.proofs.lemmas.Bool.{false≢true}
use Rattle.cells.specs.Same.{Compares}

module _ {X Y : Type 0} (f : X → Y) (x y : X) where
  -- a part that differs tells them apart
  pub differ : (f x ≡ f y → ⊥) → Compares false x y
  differ h = record { yes = λ e. absurd (false≢true e); no = λ e. absurd (h (ap f e)) }

  -- and so does a part that a test found to differ
  pub apart : (q : Bool) → Compares q (f x) (f y) → q ≡ false → Compares false x y
  apart q c e = differ (λ s. false≢true (sym e ∙ c.no s))

  -- the last part decides, where it makes the whole
  pub last-part : (q : Bool) → Compares q (f x) (f y) → (f x ≡ f y → x ≡ y) → Compares q x y
  last-part q c whole = record { yes = λ e. whole (c.yes e); no = λ e. c.no (ap f e) }
