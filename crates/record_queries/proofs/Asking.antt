-- Where the number of an ask stands, in the words of the definitions.
use Rattle.std.proofs.Common.{◌≡◌, ℕ, ◌<◌, Bool, true, false, cond, not, refl, sym, ap, ◌∙◌, arith, Result, Ok, Err, MatchResult}
use Rattle.calendar.specs.declared.refusal.Refusal.{Refusal}
use Rattle.calendar.specs.Replies.{number_of}
use Rattle.calendar.specs.Search.{Found, nothing, at, is_at}
use Rattle.calendar.specs.Refusals.{refused_or}
use Rattle.calendar.specs.Laws.Refusals.{numbered, refused_as}
use Rattle.board.specs.declared.Board.{Board}
use Rattle.board.specs.Resources.{lookup}
use Rattle.board.specs.Valid.{valid}
use Rattle.board_numbers.specs.Entry.{PlaceFor, place_for_of, entry_at, entry_for}
use Rattle.board_numbers.proofs.Standing.{on-small}
use Rattle.record_queries.specs.Replies.{QueryAnswer, Refused, asked_as}
use Rattle.record_queries.specs.Asks.{place_refusal}

-- the number stands at this place, and nothing is refused
pub record Stands (b : Board) (number place : ℕ) : Type 0 where
  pub unrefused : place_refusal b number ≡ 0
  pub rules_kept : valid b ≡ true
  pub stands : lookup b number ≡ at place
  pub low : number < 16

-- looking up a number
pub located : (b : Board) (number : ℕ) (r : Result ℕ Refusal) → place_for_of r ≡ entry_for b number
    → MatchResult r (Stands b number) (λ e. number_of e ≡ place_refusal b number)
unfolding place_refusal entry_for entry_at is_at
located b number r e = go (valid b) refl (lookup b number) refl r e
  where
    go : (v : Bool) → valid b ≡ v → (f : Found) → lookup b number ≡ f → (r : Result ℕ Refusal)
        → place_for_of r ≡ cond (not v) (record { refusal = 15; place = 0 }) (entry_at f) → MatchResult r (Stands b number) (λ e. number_of e ≡ place_refusal b number)
    go false v f g (Ok i) e = absurd (omega (arith, ap (λ (p : PlaceFor). p.refusal) e))
    go false v f g (Err x) e = rw v (ap (λ (p : PlaceFor). p.refusal) e)
    go true v nothing g (Ok i) e = absurd (omega (arith, ap (λ (p : PlaceFor). p.refusal) e))
    go true v nothing g (Err x) e = rw (v, g) (ap (λ (p : PlaceFor). p.refusal) e)
    go true v (at k) g (Ok i) e =
        let q : k ≡ i = sym (ap (λ (p : PlaceFor). p.place) e) in
        record { unrefused = rw (v, g) refl; rules_kept = v; stands = g ∙ ap at q; low = omega (arith, on-small b number v (rw g refl)) }
    go true v (at k) g (Err x) e = absurd (numbered x (ap (λ (p : PlaceFor). p.refusal) e))

-- a refusal by its number, and the rest where nothing is refused
pub refused-ask : {T : Type 0} (f : T → QueryAnswer) (b : Board) (number : ℕ) (x : Refusal) (rest : QueryAnswer) → place_for_of (Err x) ≡ entry_for b number
    → asked_as f (Err x) ≡ refused_or Refused (place_refusal b number) rest
refused-ask f b number x rest e = refused_as Refused x (place_refusal b number) rest (located b number (Err x) e)

pub taken-ask : (b : Board) (number : ℕ) (a rest : QueryAnswer) → place_refusal b number ≡ 0 → a ≡ rest → a ≡ refused_or Refused (place_refusal b number) rest
unfolding refused_or
taken-ask b number a rest h e = rw h e
