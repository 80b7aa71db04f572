-- The reply of an entry: a refusal carries its number and the board, none the board afterwards.
use Rattle.std.specs.Prelude.{◌≡◌, refl, ℕ, zero, suc}
use Rattle.std.proofs.Common.{◌∙◌}
use Rattle.calendar.specs.declared.refusal.Refusal.{Refusal}
use Rattle.calendar.specs.Replies.{number_of}
use Rattle.calendar.specs.declared.refusal.Refusal.TheVariants.{OutOfRange, EmptySpan, Units, Full, Number, Requirements, Slate, Speed, Unreadable, Invalid}
use Rattle.board.specs.Enter.{entered}
use Rattle.board.specs.declared.Board.{Board}

pub refused-by : (n m : ℕ) (b after : Board) → n ≡ m → (n ≡ 0 → ⊥) → record { refusal = n; board = b } ≡ entered m b after
unfolding entered
refused-by n m b after e h = rw e (refused m (λ z. h (e ∙ z)))
  where
    refused : (k : ℕ) → (k ≡ 0 → ⊥) → record { refusal = k; board = b } ≡ entered k b after
    refused zero f = absurd (f refl)
    refused (suc k) f = refl

-- a refusal by name
pub refused_as : (e : Refusal) (m : ℕ) (b after : Board) → number_of e ≡ m → record { refusal = number_of e; board = b } ≡ entered m b after
unfolding entered
refused_as e m b after h = rw (← h) (named e)
  where
    named : (x : Refusal) → record { refusal = number_of x; board = b } ≡ entered (number_of x) b after
    named OutOfRange = refl
    named EmptySpan = refl
    named Units = refl
    named Full = refl
    named Number = refl
    named Requirements = refl
    named Slate = refl
    named Speed = refl
    named Unreadable = refl
    named Invalid = refl

pub taken-by : (m : ℕ) (b after : Board) → m ≡ 0 → record { refusal = 0; board = after } ≡ entered m b after
unfolding entered
taken-by m b after e = rw e refl
