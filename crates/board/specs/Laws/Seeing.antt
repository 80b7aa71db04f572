-- The places of numbers: how a search goes on by one, and the table of places that is made while the board is read.
use Rattle.std.proofs.Common.{eqb-true, lt-ltb, eq-eqb, ne_eqb, true≢false, ⊎_elim, sym, ap, ◌∙◌, arith, length-set, get_or-set_same, get_or-set_other}
use Rattle.std.proofs.Math.Bool.{Bool}
use Rattle.std.specs.Prelude.{true, false, List, ◌≡◌, ltb, length, get_or, set, replicate}
use Rattle.std.proofs.Math.Path.{refl}
use Prim.Native.Nat.{ℕ, suc, ◌≤◌, ◌<◌}
use Rattle.std.proofs.Math.Dec.{eqb}
use Rattle.std.proofs.lemmas.List.{get_or-replicate}
use Rattle.cells.specs.Laws.Basics.{lt-or-ge, same_or_not, not-both}
use Rattle.calendar.specs.Search.{Found, nothing, at, least_from, is_at}
use Rattle.board.specs.Places.{place_of}
use Rattle.board.specs.Resources.{number_at, lookup_to}
use Rattle.board.specs.declared.Board.{Board}
use Rattle.calendar.specs.Laws.Searching.{least-found, least-none, least-is}

module _ (P : ℕ → Bool) (n : ℕ) where
  least_kept : (k : ℕ) → least_from P 0 n ≡ at k → least_from P 0 (suc n) ≡ at k
  least_kept k e =
      let r = least-found P 0 n k e in
      least-is P 0 (suc n) k r.0 (omega (arith, r.1))

  least-new : least_from P 0 n ≡ nothing → P n ≡ true → least_from P 0 (suc n) ≡ at n
  least-new e h = least-is P 0 (suc n) n (record { low = omega arith; holds = h; first = λ x a l. least-none P 0 n e x a (omega arith) }) (omega arith)

  least-not : least_from P 0 n ≡ nothing → P n ≡ false → least_from P 0 (suc n) ≡ nothing
  least-not e h = go (least_from P 0 (suc n)) refl
    where
      go : (f : Found) → least_from P 0 (suc n) ≡ f → f ≡ nothing
      go nothing q = refl
      go (at s) q =
          let r = least-found P 0 (suc n) s q in
          ⊎_elim
          (λ (z : s < n). absurd (not-both (P s) r.0.holds (least-none P 0 n e s (omega arith) (omega arith))))
          (λ (z : n ≤ s).
          let w : s ≡ n = omega (arith, r.1) in
          absurd (not-both (P n) (rw w at r.0.holds) h))
          (lt-or-ge s n)

-- a place that is found is one of those looked at
pub lookup-below : (b : Board) (i n k : ℕ) → lookup_to b i n ≡ at k → k < i
unfolding lookup_to
lookup-below b i n k e = let r = least-found _ 0 i k e in omega (arith, r.1)

-- .. and has the number
pub lookup-number : (b : Board) (i n k : ℕ) → lookup_to b i n ≡ at k → number_at b k ≡ n
unfolding lookup_to
lookup-number b i n k e = eqb-true _ _ (least-found (λ j. eqb (number_at b j) n) 0 i k e).0.holds

pub place-on : (b : Board) (i n : ℕ) → i ≤ 16 → ltb (place_of (lookup_to b i n)) 16 ≡ is_at (lookup_to b i n)
unfolding place_of is_at
place-on b i n l = go (lookup_to b i n) refl
  where
    go : (f : Found) → lookup_to b i n ≡ f → ltb (place_of f) 16 ≡ is_at f
    go nothing e = refl
    go (at k) e = lt-ltb k 16 (omega (arith, lookup-below b i n k e))

-- the places of the numbers among the first i resources
pub record Seen (b : Board) (i : ℕ) (places : List ℕ) : Type 0 where
  pub long : length places ≡ 16
  pub place : (n : ℕ) → n < 16 → get_or places n 0 ≡ place_of (lookup_to b i n)

start : (b : Board) (n : ℕ) → 16 ≡ place_of (lookup_to b 0 n)
unfolding lookup_to least_from place_of
start b n = refl

pub seen_none : (b : Board) → Seen b 0 (replicate 16 16)
seen_none b = record { long = refl; place = λ n l. get_or-replicate {A = ℕ} 16 n 16 0 l ∙ start b n }

-- no number twice: what the table says of it
pub seen-on : (b : Board) (i n : ℕ) (places : List ℕ) → Seen b i places → n < 16 → i ≤ 16 → ltb (get_or places n 0) 16 ≡ is_at (lookup_to b i n)
seen-on b i n places s l h = rw (s.place n l) (place-on b i n h)

pub nothing-of : (f : Found) → is_at f ≡ false → f ≡ nothing
unfolding is_at
nothing-of nothing e = refl
nothing-of (at k) e = absurd (true≢false e)

-- one more resource: its own number, and every other
module _ (b : Board) (i : ℕ) where
  pub lookup-here : is_at (lookup_to b i (number_at b i)) ≡ false → lookup_to b (suc i) (number_at b i) ≡ at i
  unfolding lookup_to
  lookup-here new = least-new (λ k. eqb (number_at b k) (number_at b i)) i (nothing-of _ new) (eq-eqb (number_at b i) (number_at b i) refl)

  pub lookup-there : (n : ℕ) → (number_at b i ≡ n → ⊥) → lookup_to b (suc i) n ≡ lookup_to b i n
  unfolding lookup_to
  lookup-there n ne = go (least_from P 0 i) refl
    where
      P : ℕ → Bool
      P k = eqb (number_at b k) n

      go : (f : Found) → least_from P 0 i ≡ f → least_from P 0 (suc i) ≡ f
      go nothing e = least-not P i e (ne_eqb _ _ ne)
      go (at k) e = least_kept P i k e

pub seen_more : (b : Board) (i : ℕ) (places : List ℕ) → Seen b i places → number_at b i < 16 → is_at (lookup_to b i (number_at b i)) ≡ false
    → Seen b (suc i) (set places (number_at b i) i)
unfolding place_of
seen_more b i places s room new = record {
  long = simp length-set s.long;
  place = λ n l.
      ⊎_elim
      (λ (e : number_at b i ≡ n). rw (← e) (get_or-set_same places (number_at b i) i 0 (omega (arith, s.long)) ∙ sym (ap place_of (lookup-here b i new))))
      (λ (ne : n ≡ number_at b i → ⊥). get_or-set_other places (number_at b i) n i 0 ne ∙ s.place n l ∙ ap place_of (sym (lookup-there b i n (λ e. ne (sym e)))))
      (same_or_not (number_at b i) n);
}

-- a number that is found stays where it is
pub lookup-more : (b : Board) (i n k : ℕ) → lookup_to b i n ≡ at k → lookup_to b (suc i) n ≡ at k
unfolding lookup_to
lookup-more b i n k e = least_kept (λ j. eqb (number_at b j) n) i k e
