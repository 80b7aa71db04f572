-- 01, 'Replies': a refusal carries only its number.
use Rattle.std.specs.Prelude.{ℕ, zero, suc}

-- the refusal of this number, or the reply where the number is 0
unfoldable pub refused_or : {A : Type 0} → (ℕ → A) → ℕ → A → A
refused_or refused zero reply = reply
refused_or refused (suc n) reply = refused (suc n)
