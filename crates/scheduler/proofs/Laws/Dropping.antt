-- Sorting where some candidates fall out: the first ones stay as they are where none of them falls out.
use Rattle.std.specs.Prelude.{◌≡◌, Bool, ◌&&◌, ◌||◌, cond, ◌⊎◌, ℕ, zero, suc, ◌≤◌, ◌<◌, length, take, ltb, eqb}
use Rattle.std.proofs.Math.Path.{refl}
use Rattle.std.proofs.Common.{sym, ◌∙◌, inl, inr, arith, ltb-true, ltb-false, lt-ltb, eqb-true}
use Rattle.std.proofs.Math.Bool.{true, false}
use mathlib.Core.List.{List, [], ◌∷◌}
use Rattle.std.proofs.lemmas.Bool.{eqb-false}
use Rattle.cells.specs.Laws.Basics.{not-both}
use Rattle.scheduler.specs.Choosing.{Candidate, sooner, comes_first, insert, sort_into, sort, insert_by}
use Rattle.cells.specs.Every.{Each, each_end, each_on, Pairs, pairs_end, pairs_on}
use Rattle.cells.specs.Laws.Each.{each_weaken}
use Rattle.scheduler.specs.Laws.Ranking.{sooner-less, sooner-even, each-insert}

-- earlier, or at the same start of shorter processing
abbrev pub First : Candidate → Candidate → Type 0
First c d = (c.start < d.start) ⊎ ((c.start ≡ d.start) × (c.process < d.process))

-- and the other way round, or the same
abbrev pub Not : Candidate → Candidate → Type 0
Not c d = (d.start < c.start) ⊎ ((c.start ≡ d.start) × (d.process ≤ c.process))

first_says : (c d : Candidate) → comes_first c d ≡ true → First c d
unfolding sooner
first_says c d e = go (ltb c.start d.start) (eqb c.start d.start) (ltb c.process d.process) refl refl refl e
  where
    go : (x y z : Bool) → ltb c.start d.start ≡ x → eqb c.start d.start ≡ y → ltb c.process d.process ≡ z → x || (y && z) ≡ true → First c d
    go true y z p q r h = inl (ltb-true c.start d.start p)
    go false true true p q r h = inr (eqb-true c.start d.start q, ltb-true c.process d.process r)
    go false true false p q r h = absurd (not-both true refl (sym h))
    go false false z p q r h = absurd (not-both true refl (sym h))

not-says : (c d : Candidate) → comes_first c d ≡ false → Not c d
unfolding sooner
not-says c d e = go (ltb c.start d.start) (eqb c.start d.start) (ltb c.process d.process) refl refl refl e
  where
    go : (x y z : Bool) → ltb c.start d.start ≡ x → eqb c.start d.start ≡ y → ltb c.process d.process ≡ z → x || (y && z) ≡ false → Not c d
    go true y z p q r h = absurd (not-both true refl h)
    go false true true p q r h = absurd (not-both true refl h)
    go false true false p q r h = inr (eqb-true c.start d.start q, ltb-false c.process d.process r)
    go false false z p q r h = let k = eqb-false c.start d.start q in inl (omega (arith, ltb-false c.start d.start p, k))

first-is : (c d : Candidate) → First c d → comes_first c d ≡ true
first-is c d (inl l) = sooner-less c.start c.process d.start d.process l
first-is c d (inr w) = sooner-even c.start c.process d.start d.process w.0 ∙ lt-ltb c.process d.process w.1

-- x before d, and e not: x before e
onward : (x d e : Candidate) → First x d → Not e d → First x e
onward x d e (inl l) (inl m) = inl (omega arith)
onward x d e (inl l) (inr m) = inl (omega (arith, m.0))
onward x d e (inr l) (inl m) = inl (omega (arith, l.0))
onward x d e (inr l) (inr m) = inr (omega (arith, l.0, m.0), omega (arith, l.1, m.1))

turned : (x e : Candidate) → First x e → Not e x
turned x e (inl l) = inl l
turned x e (inr l) = inr (omega (arith, l.0), omega (arith, l.1))

-- sorted: nothing behind comes before
pub data InOrder : List Candidate → Type 0 where
  sorted_end : InOrder []
  sorted_on : {d : Candidate} → {ds : List Candidate} → Each (λ e. Not e d) ds → InOrder ds → InOrder (d ∷ ds)

insert-sorted : (c : Candidate) (ds : List Candidate) → InOrder ds → InOrder (insert c ds)
unfolding insert_by
insert-sorted c [] sorted_end = sorted_on each_end sorted_end
insert-sorted c (d ∷ ds) (sorted_on a s) = go (comes_first c d) refl (insert-sorted c ds s)
  where
    go : (q : Bool) → comes_first c d ≡ q → InOrder (insert c ds) → InOrder (cond q (c ∷ d ∷ ds) (d ∷ insert c ds))
    go true e r =
        let f = first_says c d e in
        sorted_on (each_on (turned c d f) (each_weaken (λ e. Not e d) (λ e. Not e c) ds (λ e n. turned c e (onward c d e f n)) a)) (sorted_on a s)
    go false e r = sorted_on (each-insert comes_first (λ e. Not e d) c ds (not-says c d e) a) r

-- the second list is the first with some that have D left out, the others related by R
pub data Sub (D : Candidate → Type 0) (R : Candidate → Candidate → Type 0) : List Candidate → List Candidate → Type 0 where
  sub_end : Sub D R [] []
  sub_keep : {x y : Candidate} → {xs ys : List Candidate} → R x y → Sub D R xs ys → Sub D R (x ∷ xs) (y ∷ ys)
  sub_drop : {x : Candidate} → {xs ys : List Candidate} → D x → Sub D R xs ys → Sub D R (x ∷ xs) ys

module _ (D : Candidate → Type 0) (R : Candidate → Candidate → Type 0) (starts : (x y : Candidate) → R x y → x.start ≡ y.start)
    (times : (x y : Candidate) → R x y → x.process ≡ y.process) where
  same-order : (x y d e : Candidate) → R x y → R d e → comes_first x d ≡ comes_first y e
  unfolding sooner
  same-order x y d e p q = rw (starts x y p, times x y p, starts d e q, times d e q) refl

  leads : (x y : Candidate) (ds ys : List Candidate) → R x y → Each (λ e. First x e) ds → Sub D R ds ys → insert y ys ≡ y ∷ ys
  unfolding insert_by
  leads x y [] (e ∷ ys) p _ x8 = elim x8 [ ]
  leads x y [] [] p each_end sub_end = refl
  leads x y (d ∷ ds) (e ∷ ys) p (each_on f a) (sub_keep r s) = rw (sym (same-order x y d e p r) ∙ first-is x d f) refl
  leads x y (d ∷ ds) ys p (each_on f a) (sub_drop k s) = leads x y ds ys p a s

  sub-insert : (x y : Candidate) (xs ys : List Candidate) → R x y → InOrder xs → Sub D R xs ys → Sub D R (insert x xs) (insert y ys)
  unfolding insert_by
  sub-insert x y [] (e ∷ ys) p _ x8 = elim x8 [ ]
  sub-insert x y [] [] p sorted_end sub_end = sub_keep p sub_end
  sub-insert x y (d ∷ ds) (e ∷ ys) p (sorted_on a o) (sub_keep r s) = go (comes_first x d) (comes_first y e) (same-order x y d e p r) (sub-insert x y ds ys p o s)
    where
      go : (u v : Bool) → u ≡ v → Sub D R (insert x ds) (insert y ys) → Sub D R (cond u (x ∷ d ∷ ds) (d ∷ insert x ds)) (cond v (y ∷ e ∷ ys) (e ∷ insert y ys))
      go true true h i = sub_keep p (sub_keep r s)
      go true false h i = absurd (not-both true refl h)
      go false true h i = absurd (not-both true refl (sym h))
      go false false h i = sub_keep r i
  sub-insert x y (d ∷ ds) ys p (sorted_on a o) (sub_drop k s) = go (comes_first x d) refl (sub-insert x y ds ys p o s)
    where
      go : (u : Bool) → comes_first x d ≡ u → Sub D R (insert x ds) (insert y ys) → Sub D R (cond u (x ∷ d ∷ ds) (d ∷ insert x ds)) (insert y ys)
      go true h i =
          let f = first_says x d h in
          rw (leads x y ds ys p (each_weaken (λ e. Not e d) (λ e. First x e) ds (λ e n. onward x d e f n) a) s) (sub_keep p (sub_drop k s))
      go false h i = sub_drop k i

  sub-without : (x : Candidate) (xs ys : List Candidate) → D x → Sub D R xs ys → Sub D R (insert x xs) ys
  unfolding insert_by
  sub-without x [] (e ∷ ys) k x5 = elim x5 [ ]
  sub-without x [] [] k sub_end = sub_drop k sub_end
  sub-without x (d ∷ ds) (e ∷ ys) k (sub_keep r s) = go (comes_first x d) (sub-without x ds ys k s)
    where
      go : (u : Bool) → Sub D R (insert x ds) ys → Sub D R (cond u (x ∷ d ∷ ds) (d ∷ insert x ds)) (e ∷ ys)
      go true i = sub_drop k (sub_keep r s)
      go false i = sub_keep r i
  sub-without x (d ∷ ds) ys k (sub_drop j s) = go (comes_first x d) (sub-without x ds ys k s)
    where
      go : (u : Bool) → Sub D R (insert x ds) ys → Sub D R (cond u (x ∷ d ∷ ds) (d ∷ insert x ds)) ys
      go true i = sub_drop k (sub_drop j s)
      go false i = sub_drop j i

  into : (as' bs cs ds : List Candidate) → InOrder as' → Sub D R as' bs → Sub D R cs ds → Sub D R (sort_into as' cs) (sort_into bs ds)
  unfolding sort_into
  into as' bs [] (d ∷ ds) o s x6 = elim x6 [ ]
  into as' bs [] [] o s sub_end = s
  into as' bs (c ∷ cs) (d ∷ ds) o s (sub_keep r t) = into (insert c as') (insert d bs) cs ds (insert-sorted c as' o) (sub-insert c d as' bs r o s) t
  into as' bs (c ∷ cs) ds o s (sub_drop k t) = into (insert c as') bs cs ds (insert-sorted c as' o) (sub-without c as' bs k s) t

  -- what falls out before sorting falls out after it
  pub sub-sort : (cs ds : List Candidate) → Sub D R cs ds → Sub D R (sort cs) (sort ds)
  sub-sort cs ds s = into [] [] cs ds sorted_end sub_end s

  -- the first k stay where none of them falls out
  pub sub-take : (k : ℕ) (xs ys : List Candidate) → Sub D R xs ys → Each (λ x. D x → ⊥) (take k xs) → k ≤ length xs → Pairs R (take k xs) (take k ys) × (k ≤ length ys)
  sub-take (suc k) [] (y ∷ ys) s a l = elim s [ ]
  sub-take zero xs ys s a l = (pairs_end, omega arith)
  sub-take (suc k) [] [] sub_end a l = absurd (omega arith)
  sub-take (suc k) (x ∷ xs) (y ∷ ys) (sub_keep r s) (each_on f a) l = let w = sub-take k xs ys s a (omega arith) in (pairs_on r w.0, omega (arith, w.1))
  sub-take (suc k) (x ∷ xs) ys (sub_drop d s) (each_on f a) l = absurd (f d)
