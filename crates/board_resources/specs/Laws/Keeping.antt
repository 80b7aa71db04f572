-- What an entry puts on a board keeps the rules there: a matrix and its entries, a transport, a resource.
use Rattle.std.proofs.lemmas.Bool.{not-false}
use Rattle.std.proofs.Common.{lt-ltb, le-ltb, le-leb, eq-eqb, true≢false, sym, ◌∙◌, add-one, arith, get_or-append-add}
use Rattle.std.specs.Prelude.{Bool, true, false, not, cond, List, ◌≡◌, refl, ℕ, zero, suc, ◌+◌, ◌-◌, ◌*◌, ◌/◌, ◌%◌, ◌^◌, ◌≤◌, ◌<◌, leb, eqb, ℤ, pos, length, get_or, set, replicate}
use Rattle.std.proofs.Math.Logic.{⊎_elim}
use Rattle.std.proofs.Math.Path.{ap}
use Rattle.std.proofs.lemmas.List.{get_or-replicate}
use Rattle.std.proofs.Math.ListN.{get_or-append}
use Rattle.std.proofs.Math.Seq.{get_or-set_same, get_or-set_other, set_out}
use Rattle.cells.specs.Laws.Basics.{and_split, and-join, lt-or-ge, same_or_not, unrefused}
use Rattle.calendar.specs.Search.{Found, nothing, at, is_at}
use Rattle.board.specs.Enter.{entered, with_new, new_matrix, matrix_of, with_transition, with_initial, with_transport}
use Rattle.board.specs.Resources.{companion_cells, new_resource, with_matrix, with_timeline, no_resource, resource_at, number_at, lookup_to, on_board}
use Rattle.board.specs.Valid.{duration_right, entry_right, is_zero, matrix_right, companions_right, last_right, resource_right, resource_blank, transport_right, valid}
use Rattle.board.specs.declared.Board.{Board}
use Rattle.board.specs.declared.Resource.{Resource}
use Rattle.board.specs.declared.TransitionMatrix.{TransitionMatrix}
use Rattle.board_numbers.proofs.Standing.{on-small}
use Rattle.cells.specs.Every.{every, every_from}
use Rattle.cells.specs.Laws.Every.{every_in, from_at, from_all}
use Rattle.board.specs.Laws.Facts.{rules_of, ruled}
use Rattle.board.specs.Laws.Keeping.{lookup-same, widened}
use Rattle.board.specs.Laws.Seeing.{lookup-more}
use Rattle.timeline.specs.declared.ResourceTimeline.{ResourceTimeline}
use Rattle.timeline.specs.Valid as timeline

-- what an entry leaves is the board, or the board changed
pub entered-keeps : (n : ℕ) (b after : Board) → valid b ≡ true → (n ≡ 0 → valid after ≡ true) → valid (entered n b after).board ≡ true
unfolding entered
entered-keeps zero b after v f = f refl
entered-keeps (suc n) b after v f = v

-- a resource with another matrix or diary
pub remade : (r : Resource) (m : TransitionMatrix) → resource_right r ≡ true → matrix_right m ≡ true → resource_right (with_matrix m r) ≡ true
unfolding resource_right
remade r m h g =
    let h1 = and_split (leb r.number 15) _ h in
    let h2 = and_split (companions_right r.companions r.count) _ h1.1 in
    let h3 = and_split (timeline.valid r.timeline) _ h2.1 in
    let h4 = and_split (matrix_right r.matrix) (last_right r.last) h3.1 in
    rw (h1.0, h2.0, h3.0, g, h4.1) refl

pub rewritten : (r : Resource) (t : ResourceTimeline) → resource_right r ≡ true → timeline.valid t ≡ true → resource_right (with_timeline t r) ≡ true
unfolding resource_right
rewritten r t h g =
    let h1 = and_split (leb r.number 15) _ h in
    let h2 = and_split (companions_right r.companions r.count) _ h1.1 in
    let h3 = and_split (timeline.valid r.timeline) _ h2.1 in
    rw (h1.0, h2.0, g, h3.1) refl

-- matrices
pub new-right : (d i : ℤ) → duration_right d ≡ true → duration_right i ≡ true → matrix_right (new_matrix d i) ≡ true
unfolding matrix_right every_from entry_right
new-right d i p q = rw (p, q) refl

pub of_right : (m : TransitionMatrix) → matrix_right m ≡ true → (matrix_right (matrix_of m) ≡ true) × ((matrix_of m).present ≡ true)
unfolding matrix_of duration_right
of_right m h = go m.present refl
  where
    go : (t : Bool) → m.present ≡ t → (matrix_right (cond t m (new_matrix (pos 0) (pos 0))) ≡ true) × ((cond t m (new_matrix (pos 0) (pos 0))).present ≡ true)
    go true e = (h, e)
    go false e = (new-right (pos 0) (pos 0) refl refl, refl)

set-every : (xs : List ℤ) (k n : ℕ) (z : ℤ) → every_from (λ i. entry_right (get_or xs i (pos 0))) 0 n ≡ true → entry_right z ≡ true
    → every_from (λ i. entry_right (get_or (set xs k z) i (pos 0))) 0 n ≡ true
set-every xs k n z h e =
    ⊎_elim
    (λ (l : k < length xs).
    from_all _ 0 n (λ j o m.
    ⊎_elim
    (λ (q : k ≡ j). rw (← q) (ap entry_right (get_or-set_same xs k z (pos 0) l) ∙ e))
    (λ (q : j ≡ k → ⊥). ap entry_right (get_or-set_other xs k j z (pos 0) q) ∙ from_at (λ i. entry_right (get_or xs i (pos 0))) 0 n h j (omega arith) (omega arith))
    (same_or_not k j)))
    (λ (l : length xs ≤ k). rw (set_out xs k z l) h)
    (lt-or-ge k (length xs))

record MatrixParts (m : TransitionMatrix) : Type 0 where
  first : duration_right m.default ≡ true
  second : duration_right m.initial ≡ true
  pairs : every_from (λ i. entry_right (get_or m.transitions i (pos 0))) 0 256 ≡ true
  firsts : every_from (λ i. entry_right (get_or m.initials i (pos 0))) 0 16 ≡ true

parts : (m : TransitionMatrix) → m.present ≡ true → matrix_right m ≡ true → MatrixParts m
unfolding matrix_right
parts m p h =
    let g = rw p at h in
    let h1 = and_split (duration_right m.default) _ g in
    let h2 = and_split (duration_right m.initial) _ h1.1 in
    let h3 = and_split (every_from (λ i. entry_right (get_or m.transitions i (pos 0))) 0 256) (every_from (λ i. entry_right (get_or m.initials i (pos 0))) 0 16) h2.1 in
    record { first = h1.0; second = h2.0; pairs = h3.0; firsts = h3.1 }

pub transition-right : (m : TransitionMatrix) (last this : ℕ) (ms : ℤ) → m.present ≡ true → matrix_right m ≡ true → entry_right ms ≡ true → matrix_right (with_transition last this ms m) ≡ true
unfolding matrix_right
transition-right m last this ms p h e =
    let w = parts m p h in
    rw (p, w.first, w.second, set-every m.transitions (16 * last + this) 256 ms w.pairs e, w.firsts) refl

pub initial-right : (m : TransitionMatrix) (category : ℕ) (ms : ℤ) → m.present ≡ true → matrix_right m ≡ true → entry_right ms ≡ true → matrix_right (with_initial category ms m) ≡ true
unfolding matrix_right
initial-right m category ms p h e =
    let w = parts m p h in
    rw (p, w.first, w.second, w.pairs, set-every m.initials category 16 ms w.firsts e) refl

-- a transport that is set
set_here : (b : Board) (from to ms : ℕ) → from ≤ 15 → to ≤ 15 → length b.transport ≡ 256 → on_board b from ≡ true → on_board b to ≡ true → ms ≤ 2 ^ 36
    → transport_right (with_transport b from to ms) (16 * from + to) ≡ true
unfolding transport_right
set_here b from to ms p q wide f g l =
    let x : (16 * from + to) / 16 ≡ from = omega arith in
    let y : (16 * from + to) % 16 ≡ to = omega arith in
    let c = with_transport b from to ms in
    let f2 : on_board c from ≡ true = ap is_at (lookup-same b c b.len from (λ k m. refl)) ∙ f in
    let g2 : on_board c to ≡ true = ap is_at (lookup-same b c b.len to (λ k m. refl)) ∙ g in
    rw (get_or-set_same b.transport (16 * from + to) ms 0 (omega arith), x, y, f2, g2, le-leb ms (2 ^ 36) l) refl

set_there : (b : Board) (from to ms k : ℕ) → (k ≡ 16 * from + to → ⊥) → transport_right b k ≡ true → transport_right (with_transport b from to ms) k ≡ true
unfolding transport_right
set_there b from to ms k ne h =
    let c = with_transport b from to ms in
    rw (get_or-set_other b.transport (16 * from + to) k ms 0 ne, lookup-same b c b.len (k / 16) (λ j m. refl), lookup-same b c b.len (k % 16) (λ j m. refl)) h

pub transport-kept-with : (b : Board) (from to ms : ℕ) → valid b ≡ true → length b.transport ≡ 256
    → (valid b ≡ true) × (on_board b from ≡ true) × (on_board b to ≡ true) × (ms ≤ 2 ^ 36) → valid (with_transport b from to ms) ≡ true
transport-kept-with b from to ms v wide f =
    let u = rules_of b v in
    let c = with_transport b from to ms in
    let p : from ≤ 15 = on-small b from v f.1 in
    let q : to ≤ 15 = on-small b to v f.2 in
    ruled c (record {
      few = u.few;
      right = u.right;
      new = λ j m. ap is_at (lookup-same b c j (number_at b j) (λ k w. refl)) ∙ u.new j m;
      blank = u.blank;
      transport = λ k m.
          ⊎_elim
          (λ (e : 16 * from + to ≡ k). rw (← e) (set_here b from to ms p q wide f.1 f.2 f.3))
          (λ (e : k ≡ 16 * from + to → ⊥). set_there b from to ms k e (u.transport k m))
          (same_or_not (16 * from + to) k);
    })

past : (companions : List ℕ) (j : ℕ) → length companions ≤ j → j < 4 → eqb (get_or (companion_cells companions) j 0) 0 ≡ true
past companions j l m =
    let n = length companions in
    let e : j ≡ n + (j - n) = omega arith in
    eq-eqb _ 0 (ap (λ (x : ℕ). get_or (companion_cells companions) x 0) e ∙ get_or-append-add companions (replicate (4 - n) 0) (j - n) 0 ∙ get_or-replicate {A = ℕ} (4 - n) (j - n) 0 0 (omega arith))

grown : (b : Board) (i n : ℕ) → is_at (lookup_to b i n) ≡ true → is_at (lookup_to b (suc i) n) ≡ true
unfolding is_at
grown b i n h = go (lookup_to b i n) refl h
  where
    go : (f : Found) → lookup_to b i n ≡ f → is_at f ≡ true → is_at (lookup_to b (suc i) n) ≡ true
    go nothing e q = absurd (true≢false (sym q))
    go (at k) e q = rw (lookup-more b i n k e) refl

-- a new resource, behind the others
companions-right : (companions : List ℕ) → length companions ≤ 4 → every (λ companion. leb companion 15) companions ≡ true
    → companions_right (companion_cells companions) (length companions) ≡ true
unfolding companions_right
companions-right companions l h =
    and-join _ _ (le-leb (length companions) 4 l)
    (from_all _ 0 4 (λ j z m.
    ⊎_elim
    (λ (k : j < length companions).
    rw (lt-ltb j (length companions) k, get_or-append companions (replicate (4 - length companions) 0) 0 j k)
    (every_in (λ companion. leb companion 15) companions j 0 k h))
    (λ (k : length companions ≤ j). rw (le-ltb j (length companions) k) (past companions j k (omega arith)))
    (lt-or-ge j (length companions))))

pub new-resource : (number kind skills : ℕ) (companions : List ℕ) (t : ResourceTimeline) → number ≤ 15 → length companions ≤ 4
    → every (λ companion. leb companion 15) companions ≡ true → timeline.valid t ≡ true → resource_right (new_resource number kind skills companions t) ≡ true
unfolding resource_right matrix_right every_from is_zero last_right
new-resource number kind skills companions t l m h w = rw (le-leb number 15 l, companions-right companions m h, w) refl

module _ (b : Board) (r : Resource) (long : length b.resources ≡ 16) (v : valid b ≡ true) (room : b.len < 16) (h : resource_right r ≡ true) (new : on_board b r.number ≡ false) where
  last_one : resource_at (with_new b r) b.len ≡ r
  unfolding with_new
  last_one = get_or-set_same b.resources b.len r no_resource (omega arith)

  others : (j : ℕ) → (j ≡ b.len → ⊥) → resource_at (with_new b r) j ≡ resource_at b j
  unfolding with_new
  others j ne = get_or-set_other b.resources b.len j r no_resource ne

  seen : (i n : ℕ) → i ≤ b.len → lookup_to (with_new b r) i n ≡ lookup_to b i n
  seen i n l = lookup-same b (with_new b r) i n (λ k m. ap (λ (x : Resource). x.number) (others k (λ q. omega (arith, q))))

  still-on : (n : ℕ) → on_board b n ≡ true → is_at (lookup_to (with_new b r) (b.len + 1) n) ≡ true
  still-on n o = ap (λ (m : ℕ). is_at (lookup_to (with_new b r) m n)) (add-one b.len) ∙ grown (with_new b r) b.len n (ap is_at (seen b.len n (omega arith)) ∙ o)

  wider : (k : ℕ) → transport_right b k ≡ true → transport_right (with_new b r) k ≡ true
  unfolding transport_right with_new
  wider k t =
      widened (get_or b.transport k 0) (on_board b (k / 16)) (on_board b (k % 16)) _ _ (λ o. still-on (k / 16) o) (λ o. still-on (k % 16) o) t

  pub valid-new : valid (with_new b r) ≡ true
  unfolding with_new
  valid-new =
      let u = rules_of b v in
      ruled (with_new b r) (record {
        few = omega arith;
        right = λ j m.
            ⊎_elim
            (λ (q : b.len ≡ j). rw (← q) (ap resource_right last_one ∙ h))
            (λ (q : j ≡ b.len → ⊥). ap resource_right (others j q) ∙ u.right j (omega (arith, q)))
            (same_or_not b.len j);
        new = λ j m.
            ⊎_elim
            (λ (q : b.len ≡ j). rw (← q) (ap is_at (ap (λ (n : ℕ). lookup_to (with_new b r) b.len n) (ap (λ (x : Resource). x.number) last_one) ∙ seen b.len r.number (omega arith)) ∙ new))
            (λ (q : j ≡ b.len → ⊥). ap is_at (ap (λ (n : ℕ). lookup_to (with_new b r) j n) (ap (λ (x : Resource). x.number) (others j q)) ∙ seen j (number_at b j) (omega (arith, q))) ∙ u.new j (omega (arith, q)))
            (same_or_not b.len j);
        blank = λ j m w. ap resource_blank (others j (λ q. omega (arith, q))) ∙ u.blank j (omega arith) w;
        transport = λ k m. wider k (u.transport k m);
      })

-- the last of three checks that were passed
pub third : (v o q : Bool) → ◌≡◌ {A = ℕ} (cond (not v) 15 (cond (not o) 5 (cond (not q) 1 0))) 0 → q ≡ true
third v o q e = not-false q (unrefused (not q) 0 0 (unrefused (not o) 4 _ (unrefused (not v) 14 _ e).1).1).0
