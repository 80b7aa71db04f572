-- How the code tells the resource that an entry names.
use Rattle.std.specs.Prelude.{ℕ, not, cond, Result}
use Rattle.calendar.specs.declared.refusal.Refusal.{Refusal}
use Rattle.calendar.specs.Replies.{refused, kept}
use Rattle.calendar.specs.Search.{Found, nothing, at}
use Rattle.board.specs.declared.Board.{Board}
use Rattle.board.specs.Resources.{lookup}
use Rattle.board.specs.Valid.{valid}

-- the refusal of an entry for a resource by the board and its number, 0 for none; then its place
pub record PlaceFor : Type 0 where
  pub refusal : ℕ
  pub place : ℕ

abbrev pub place_for_of : Result ℕ Refusal → PlaceFor
place_for_of r = record { refusal = refused r; place = kept 0 r }

-- 15 before all else, 5 not on the board; else the place
unfoldable pub entry_at : Found → PlaceFor
entry_at nothing = record { refusal = 5; place = 0 }
entry_at (at i) = record { refusal = 0; place = i }

unfoldable pub entry_for : Board → ℕ → PlaceFor
entry_for b number = cond (not (valid b)) (record { refusal = 15; place = 0 }) (entry_at (lookup b number))
