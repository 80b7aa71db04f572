-- Companions that join once each: at most sixteen, for they are resource numbers.
use Rattle.std.specs.Prelude.{◌≡◌, ℕ, suc, ◌+◌, ◌<◌, ◌≤◌, Bool, true, false, cond, ◌||◌, eqb, ltb, List, [], ◌∷◌, ◌++◌, map, length, get_or, take, set}
use mathlib.Core.Path.{refl, sym, ap, ◌∙◌}
use mathlib.Core.Bool.{or-false}
use mathlib.Core.List.{append_assoc, append-nil, map-append, map-map, map-id}
use native.Mathlib.Omega.{arith}
use borrow.Author.Tests.{lt-ltb, eq-eqb, ne_eqb}
use lib.ListN.{length-set, length-append}
use lib.Seq.{take-suc-set}
use Rattle.std.specs.List.{list_any}
use Rattle.board.specs.Laws.Counts.{count_to, count_none, count_most, count-more}
use Rattle.scheduler.specs.declared.Entry.{Entry}
use Rattle.scheduler.specs.Fitting.{among, join_each}
use Rattle.scheduler.specs.Entries.{companion_entry}
use Rattle.scheduler.specs.Laws.Events.{among-append}
use Rattle.cells.specs.Laws.Basics.{or_right, take_next}
use Rattle.place_entries.specs.Cells.{entry_number}

join_last : (held joined cs : List ℕ) (c : ℕ) → join_each held joined (cs ++ (c ∷ [])) ≡ cond (among c held || among c (join_each held joined cs)) (join_each held joined cs) (join_each held joined cs ++ (c ∷ []))
unfolding join_each
join_last held joined [] c = refl
join_last held joined (x ∷ cs) c = join_last held (cond (among x held || among x joined) joined (joined ++ (x ∷ []))) cs c

-- how many of the first m numbers are in a list
abbrev tally : List ℕ → ℕ → ℕ
tally xs m = count_to (λ n. among n xs) m

-- a number that was not in it counts once
tally-more : (xs : List ℕ) (c : ℕ) → among c xs ≡ false → (m : ℕ) → tally (xs ++ (c ∷ [])) m ≡ tally xs m + cond (ltb c m) 1 0
unfolding among
tally-more xs c e m =
    count-more (λ n. among n xs) (λ n. among n (xs ++ (c ∷ []))) c e
    (among-append c xs (c ∷ []) ∙ rw (e, eq-eqb c c refl) refl)
    (λ k ne. among-append k xs (c ∷ []) ∙ rw (ne_eqb c k (λ w. ne (sym w))) (or-false (among k xs)))
    m

-- k cells of xs are those of es and the joined ones, each once
pub record Joined (es : List Entry) (n : ℕ) (js : List ℕ) (xs : List Entry) (k : ℕ) : Type 0 where
  pub long : length xs ≡ 24
  pub first : n ≤ 8
  pub count : k ≡ n + length js
  pub entries : take k xs ≡ es ++ map companion_entry js
  pub once : length js ≡ tally js 16

pub joined-none : (n : ℕ) (xs : List Entry) → n ≤ 8 → length xs ≡ 24 → Joined (take n xs) n [] xs n
unfolding among
joined-none n xs l e = record { long = e; first = l; count = omega arith; entries = sym (append-nil (take n xs)); once = sym (count_none (λ n. among n []) (λ k. refl) 16) }

module _ (es : List Entry) (n : ℕ) (js : List ℕ) (xs : List Entry) (k : ℕ) (j : Joined es n js xs k) where
  pub joined-few : k ≤ 24
  joined-few = omega (arith, j.first, j.count, j.once, count_most (λ n. among n js) 16)

  -- those already there
  joined_numbers : (c : ℕ) → among c (map entry_number (take k xs)) ≡ among c (map entry_number es) || among c js
  joined_numbers c =
      ap (λ (ys : List Entry). among c (map entry_number ys)) j.entries
      ∙ ap (among c) (map-append entry_number es (map companion_entry js) ∙ ap (λ (ys : List ℕ). map entry_number es ++ ys) (map-map entry_number companion_entry js ∙ map-id js))
      ∙ among-append c (map entry_number es) js

  module _ (c : ℕ) (l : c < 16) (new : among c js ≡ false) where
    more : length (js ++ (c ∷ [])) ≡ tally (js ++ (c ∷ [])) 16
    more = length-append js (c ∷ []) ∙ sym (tally-more js c new 16 ∙ rw (lt-ltb c 16 l) (omega (arith, j.once)))

    joined-room : k < 24
    joined-room = omega (arith, j.first, j.count, more, length-append js (c ∷ []), count_most (λ n. among n (js ++ (c ∷ []))) 16)

    joined-on : Joined es n (js ++ (c ∷ [])) (set xs k (companion_entry c)) (k + 1)
    joined-on = record {
      long = length-set xs k (companion_entry c) ∙ j.long;
      first = j.first;
      count = omega (arith, j.count, length-append js (c ∷ []));
      entries =
          let z : k + 1 ≡ suc k = omega arith in
          let w : map companion_entry (js ++ (c ∷ [])) ≡ map companion_entry js ++ (companion_entry c ∷ []) = map-append companion_entry js (c ∷ []) in
          rw (z, w, take-suc-set xs k (companion_entry c) (omega (arith, j.long, joined-room)), j.entries) (append_assoc es (map companion_entry js) (companion_entry c ∷ []));
      once = more;
    }

-- an entry with a number, as `any` looks for it
pub any-among : (number : ℕ) (es : List Entry) → list_any (λ (x : Entry). eqb x.number number) es ≡ among number (map entry_number es)
unfolding among
any-among number [] = refl
any-among number (e ∷ es) = ap (λ (p : Bool). eqb e.number number || p) (any-among number es)

-- one companion more
module _ (es : List Entry) (n : ℕ) (cs : List ℕ) (i : ℕ) (xs : List Entry) (k : ℕ) (l : i < length cs) (j : Joined es n (join_each (map entry_number es) [] (take i cs)) xs k) where
  abbrev js : List ℕ
  js = join_each (map entry_number es) [] (take i cs)

  abbrev c : ℕ
  c = get_or cs i 0

  next-is : (p : Bool) → among c (map entry_number (take k xs)) ≡ p → join_each (map entry_number es) [] (take (i + 1) cs) ≡ cond p js (js ++ (c ∷ []))
  next-is p e = rw (take_next cs i 0 l, ← e, joined_numbers es n js xs k j c) (join_last (map entry_number es) [] (take i cs) c)

  pub join-skip : among c (map entry_number (take k xs)) ≡ true → Joined es n (join_each (map entry_number es) [] (take (i + 1) cs)) xs k
  join-skip e = rw (next-is true e) j

  module _ (e : among c (map entry_number (take k xs)) ≡ false) (small : c < 16) where
    new : among c js ≡ false
    new = or_right (among c (map entry_number es)) (among c js) (sym (joined_numbers es n js xs k j c) ∙ e)

    pub join-room : k < 24
    join-room = joined-room es n js xs k j c small new

    pub join-on : Joined es n (join_each (map entry_number es) [] (take (i + 1) cs)) (set xs k (companion_entry c)) (k + 1)
    join-on = rw (next-is false e) (joined-on es n js xs k j c small new)
