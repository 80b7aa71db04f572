-- A reply that is refused by its number.
use Rattle.std.specs.Prelude.{◌≡◌, refl, ℕ, zero, suc}
use Rattle.std.proofs.Common.{◌∙◌}
use Rattle.calendar.specs.declared.refusal.Refusal.{Refusal}
use Rattle.calendar.specs.declared.refusal.Refusal.TheVariants.{OutOfRange, EmptySpan, Units, Full, Number, Requirements, Slate, Speed, Unreadable, Invalid}
use Rattle.calendar.specs.Refusals.{refused_or}
use Rattle.calendar.specs.Replies.{number_of}

pub refused-by : {A : Type 0} (refused : ℕ → A) (n : ℕ) (reply : A) → (n ≡ 0 → ⊥) → refused n ≡ refused_or refused n reply
unfolding refused_or
refused-by refused zero reply h = absurd (h refl)
refused-by refused (suc n) reply h = refl

-- no refusal has the number 0, which says that nothing is refused
pub numbered : (e : Refusal) → number_of e ≡ 0 → ⊥
numbered OutOfRange h = cc
numbered EmptySpan h = cc
numbered Units h = cc
numbered Full h = cc
numbered Number h = cc
numbered Requirements h = cc
numbered Slate h = cc
numbered Speed h = cc
numbered Unreadable h = cc
numbered Invalid h = cc

-- the reply of a refusal by name
pub refused_as : {A : Type 0} (refused : ℕ → A) (e : Refusal) (n : ℕ) (reply : A) → number_of e ≡ n → refused (number_of e) ≡ refused_or refused n reply
refused_as refused e n reply h = rw (← h) (refused-by refused (number_of e) reply (numbered e))
