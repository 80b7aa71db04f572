-- What an iterator's `all` tells is the definition's 'each': of a list, and of a run of indexes of it.
use Rattle.std.specs.Prelude.{◌≡◌, ◌<◌, ℕ, Bool, true, false, List, length, get_or, refl, Option, MatchOption, MatchBool}
use Rattle.std.proofs.Common.{sym, ◌∙◌, arith}
use Rattle.std.specs.List.{AllWithin, HoldsAt, FoldsTo}
use Rattle.std.specs.Fn.{Called}
use Rattle.std.specs.Iterator.{YieldsThen}
use Rattle.std.proofs.lemmas.Iterator.{YieldsList, cases_from_all}
use denote.Param.Members.{Mut}
use Rattle.cells.specs.Every.{every, every_from}
use Rattle.cells.specs.Laws.Every.{every_in, every_of, from_at, from_all}

apart : {b : Bool} → b ≡ true → b ≡ false → ⊥
apart e f = cc

module _ {A : Type 0} (P : A → Bool) (d : A) (xs : List A) where
  every_told : (r : Bool) → MatchBool r (AllWithin (λ x. P x ≡ true) xs 0 (length xs)) ((k : ℕ) × (k < length xs) × HoldsAt (λ x. P x ≡ false) xs k) → r ≡ every P xs
  every_told true h = sym (every_of P xs d (λ i l. h i d (omega arith) l))
  every_told false h = go (every P xs) refl
    where
      go : (b : Bool) → every P xs ≡ b → false ≡ b
      go true e = absurd (apart (every_in P xs h.0 d h.1 e) (h.2 d))
      go false e = refl

  every_by : every P xs ≡ every_from (λ i. P (get_or xs i d)) 0 (length xs)
  every_by = go (every P xs) (every_from (λ i. P (get_or xs i d)) 0 (length xs)) refl refl
    where
      go : (a b : Bool) → every P xs ≡ a → every_from (λ i. P (get_or xs i d)) 0 (length xs) ≡ b → a ≡ b
      go true true e f = refl
      go false false e f = refl
      go true false e f = absurd (apart (from_all (λ i. P (get_or xs i d)) 0 (length xs) (λ j h l. every_in P xs j d (omega arith) e)) f)
      go false true e f = absurd (apart (every_of P xs d (λ i l. from_at (λ i. P (get_or xs i d)) 0 (length xs) f i (omega arith) (omega arith))) e)

module _ {S A B F : Type 0} {steps : S → Option A → S → Type 0} {v : A → B} {g : Mut F (A × Unit {0}) Bool} {s : S} {all : List B} (u : S) (f : F) (r : Bool) (P : B → Bool) (d : B) where
  -- of a list
  pub every_from_all : (xs : List A) × (o : Option A) × (j : F) × YieldsThen steps s xs o u × FoldsTo (λ p x q. Called g p (x, tt) true q) f xs j × MatchOption o (r ≡ true) (λ x. (r ≡ false) × ((h : F) × Called g j (x, tt) false h))
      → YieldsList steps v s all
      → ((x : A) (q : F) → Called g f (x, tt) true q → (q ≡ f) × (P (v x) ≡ true)) → ((x : A) (q : F) → Called g f (x, tt) false q → P (v x) ≡ false)
      → r ≡ every P all
  every_from_all ran e passes fails = every_told P d all r (cases_from_all u f r (λ x. P x ≡ true) (λ x. P x ≡ false) ran e passes fails)

  -- of its indexes
  pub indexes_from_all : (xs : List A) × (o : Option A) × (j : F) × YieldsThen steps s xs o u × FoldsTo (λ p x q. Called g p (x, tt) true q) f xs j × MatchOption o (r ≡ true) (λ x. (r ≡ false) × ((h : F) × Called g j (x, tt) false h))
      → YieldsList steps v s all
      → ((x : A) (q : F) → Called g f (x, tt) true q → (q ≡ f) × (P (v x) ≡ true)) → ((x : A) (q : F) → Called g f (x, tt) false q → P (v x) ≡ false)
      → r ≡ every_from (λ i. P (get_or all i d)) 0 (length all)
  indexes_from_all ran e passes fails = every_from_all ran e passes fails ∙ every_by P d all
