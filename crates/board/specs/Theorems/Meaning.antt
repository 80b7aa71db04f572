-- What the definitions amount to: where a number stands, what a valid board says of each resource, setups and transports.
use Rattle.std.proofs.Common.{leb-true, eqb-true, lt-ltb, eq-eqb, ap, ◌∙◌, arith}
use Rattle.std.specs.Prelude.{Bool, true, false, cond, ◌&&◌, ◌||◌, ◌≡◌, refl, ℕ, zero, suc, ◌+◌, ◌*◌, ◌/◌, ◌%◌, ◌^◌, ◌≤◌, ◌<◌, max, leb, eqb, ℤ, pos, negsuc, get_or, Option, Some, None}
use Rattle.std.proofs.lemmas.List.{get_or-replicate}
use Rattle.cells.specs.Laws.Basics.{and_split}
use Rattle.calendar.specs.Search.{at, least_from, is_at}
use Rattle.board.specs.Resources.{blank_resource, resource_at, number_at, lookup_to, lookup, on_board, no_resource}
use Rattle.board.specs.Setups.{entry_or, matrix_setup, setup_ms}
use Rattle.calendar.specs.Sets.{bit}
use Rattle.board.specs.Transport.{greatest_transport, transport_to}
use Rattle.board.specs.Places.{anywhere}
use Rattle.board.specs.Valid.{duration_right, entry_right, is_zero, own_right, entry_cell, matrix_right, companion_cell, companions_right, last_right, resource_right, transport_cell, transport_right, valid, resource_blank}
use Rattle.board.specs.declared.Board.{Board}
use Rattle.board.specs.declared.Resource.{Resource}
use Rattle.board.specs.declared.TransitionMatrix.{TransitionMatrix}
use Rattle.cells.specs.Every.{every_from}
use Rattle.cells.specs.Laws.Every.{from_at}
use Rattle.board.specs.Laws.Facts.{rules_of, ruled}
use Rattle.board.specs.Laws.Masks.{greatest-none, greatest-next}
use Rattle.board.specs.Laws.Seeing.{lookup-below, lookup-number, nothing-of}
use Rattle.calendar.specs.Laws.Searching.{least-none, least-is}
use Rattle.timeline.specs.Valid as timeline
use Rattle.board.specs.Enter.{empty_board}
use Rattle.board.specs.Laws.Keeping.{blank-right}

-- on a valid board a resource stands where its number is looked up
pub lookup-is : (b : Board) → valid b ≡ true → (i : ℕ) → i < b.len → lookup b (number_at b i) ≡ at i
unfolding lookup_to
lookup-is b v i l =
    let r = rules_of b v in
    least-is _ 0 b.len i (record {
      low = omega arith;
      holds = eq-eqb (number_at b i) (number_at b i) refl;
      first = λ x a m. least-none (λ k. eqb (number_at b k) (number_at b i)) 0 i (nothing-of _ (r.new i l)) x a (omega arith);
    }) (omega arith)

-- .. and what is looked up is on the board and has the number
pub lookup-means : (b : Board) (number i : ℕ) → lookup b number ≡ at i → (i < b.len) × (number_at b i ≡ number)
lookup-means b number i e = (lookup-below b b.len number i e, lookup-number b b.len number i e)

-- what the rules say of a resource
pub record ResourceRules (r : Resource) : Type 0 where
  pub number : r.number ≤ 15
  pub few : r.count ≤ 4
  pub companions : (k : ℕ) → k < r.count → get_or r.companions k 0 ≤ 15
  pub timeline : timeline.valid r.timeline ≡ true
  pub matrix : matrix_right r.matrix ≡ true
  pub last : last_right r.last ≡ true

pub resource-rules : (r : Resource) → resource_right r ≡ true → ResourceRules r
unfolding resource_right companions_right
resource-rules r h =
    let h1 = and_split (leb r.number 15) _ h in
    let h2 = and_split (companions_right r.companions r.count) _ h1.1 in
    let h3 = and_split (timeline.valid r.timeline) _ h2.1 in
    let h4 = and_split (matrix_right r.matrix) (last_right r.last) h3.1 in
    let c = and_split (leb r.count 4) _ h2.0 in
    let few : r.count ≤ 4 = leb-true r.count 4 c.0 in
    record {
      number = leb-true r.number 15 h1.0;
      few = few;
      companions = λ k l.
          let e = from_at (λ i. companion_cell r.count i (get_or r.companions i 0)) 0 4 c.1 k (omega arith) (omega arith) in
          leb-true _ 15 (rw (lt-ltb k r.count l) at e);
      timeline = h3.0;
      matrix = h4.0;
      last = h4.1;
    }

pub resource-of : (b : Board) → valid b ≡ true → (i : ℕ) → i < b.len → ResourceRules (resource_at b i)
resource-of b v i l = resource-rules _ ((rules_of b v).right i l)

-- a transport is at most 2^36, and 0 where either of the two is not on the board
cell-facts : (ms : ℕ) (p q : Bool) → transport_cell ms p q ≡ true → (ms ≤ 2 ^ 36) × (p && q ≡ false → ms ≡ 0)
cell-facts ms p q h =
    let w = and_split (leb ms (2 ^ 36)) (p && q || eqb ms 0) h in
    (leb-true ms (2 ^ 36) w.0, λ e. eqb-true ms 0 (rw e at w.1))

transport-fact : (b : Board) → valid b ≡ true → (k : ℕ) → k < 256
    → (get_or b.transport k 0 ≤ 2 ^ 36) × (on_board b (k / 16) && on_board b (k % 16) ≡ false → get_or b.transport k 0 ≡ 0)
unfolding transport_right
transport-fact b v k l = cell-facts (get_or b.transport k 0) (on_board b (k / 16)) (on_board b (k % 16)) ((rules_of b v).transport k l)

-- bits off the board add nothing on a valid board
pub off-nothing : (b : Board) → valid b ≡ true → (origins to n : ℕ) → to < 16 → n ≤ 16
    → greatest_transport anywhere b.transport origins to n ≡ greatest_transport (on_board b) b.transport origins to n
unfolding anywhere
off-nothing b v origins to zero l m = rw (greatest-none anywhere b.transport origins to, greatest-none (on_board b) b.transport origins to) refl
off-nothing b v origins to (suc n) l m =
    rw (greatest-next anywhere b.transport origins to n, greatest-next (on_board b) b.transport origins to n, off-nothing b v origins to n l (omega arith))
    (go (bit origins n) (on_board b n) refl)
  where
    before : ℕ
    before = greatest_transport (on_board b) b.transport origins to n

    ms : ℕ
    ms = get_or b.transport (16 * n + to) 0

    go : (t o : Bool) → on_board b n ≡ o → max before (cond (t && true) ms 0) ≡ max before (cond (t && o) ms 0)
    go true true e = refl
    go true false e =
        let q : (16 * n + to) / 16 ≡ n = omega arith in
        let z : on_board b ((16 * n + to) / 16) && on_board b ((16 * n + to) % 16) ≡ false = rw (q, e) refl in
        rw ((transport-fact b v (16 * n + to) (omega arith)).1 z) refl
    go false o e = refl

pub transport-is : (b : Board) → valid b ≡ true → (origins to : ℕ) → to < 16 → greatest_transport anywhere b.transport origins to 16 ≡ transport_to b origins to
transport-is b v origins to l = off-nothing b v origins to 16 l (omega arith)

-- and a transport is at most 2^36
pub greatest-small : (on : ℕ → Bool) (b : Board) → valid b ≡ true → (origins to n : ℕ) → to < 16 → n ≤ 16 → greatest_transport on b.transport origins to n ≤ 2 ^ 36
greatest-small on b v origins to zero l m = omega (arith, greatest-none on b.transport origins to)
greatest-small on b v origins to (suc n) l m = rw (greatest-next on b.transport origins to n) (go (bit origins n && on n) (greatest-small on b v origins to n l (omega arith)))
  where
    go : (q : Bool) → greatest_transport on b.transport origins to n ≤ 2 ^ 36
        → max (greatest_transport on b.transport origins to n) (cond q (get_or b.transport (16 * n + to) 0) 0) ≤ 2 ^ 36
    go true h = omega (arith, (transport-fact b v (16 * n + to) (omega arith)).0)
    go false h = omega arith

-- a setup is at most 2^36
pub setup-small : (m : TransitionMatrix) (last : Option ℕ) (this own : ℕ) → matrix_right m ≡ true → last_right last ≡ true → this ≤ 15 → own ≤ 2 ^ 36
    → setup_ms m last this own ≤ 2 ^ 36
unfolding setup_ms matrix_setup matrix_right last_right duration_right entry_right is_zero entry_or
setup-small m last this own h r l o = go m.present refl
  where
    p : Bool
    p = m.present

    ts : ℕ → Bool
    ts i = entry_cell p (get_or m.transitions i (pos 0))

    is : ℕ → Bool
    is i = entry_cell p (get_or m.initials i (pos 0))

    parts : (own_right p m.default ≡ true) × (own_right p m.initial ≡ true) × (every_from ts 0 256 ≡ true) × (every_from is 0 16 ≡ true)
    parts =
        let h1 = and_split (own_right p m.default) (own_right p m.initial && (every_from ts 0 256 && every_from is 0 16)) h in
        let h2 = and_split (own_right p m.initial) (every_from ts 0 256 && every_from is 0 16) h1.1 in
        let h3 = and_split (every_from ts 0 256) (every_from is 0 16) h2.1 in
        (h1.0, h2.0, h3.0, h3.1)

    entry-small : (present : Bool) (z : ℤ) (other : ℕ) → entry_cell present z ≡ true → other ≤ 2 ^ 36 → entry_or z other ≤ 2 ^ 36
    entry-small true (pos n) other e k = leb-true n (2 ^ 36) e
    entry-small false (pos n) other e k = omega (arith, eqb-true n 0 e)
    entry-small present (negsuc n) other e k = k

    own-small : (present : Bool) (z : ℤ) → own_right present z ≡ true → entry_or z 0 ≤ 2 ^ 36
    own-small true (pos n) e = leb-true n (2 ^ 36) e
    own-small false (pos n) e = omega (arith, eqb-true n 0 e)
    own-small present (negsuc n) e = omega arith

    by-matrix : (k : Option ℕ) → last_right k ≡ true → matrix_setup m k this ≤ 2 ^ 36
    by-matrix None e =
        entry-small p (get_or m.initials this (pos 0)) (entry_or m.initial 0) (from_at _ 0 16 parts.3 this (omega arith) (omega arith)) (own-small p m.initial parts.1)
    by-matrix (Some c) e =
        let small : c ≤ 15 = leb-true c 15 e in
        entry-small p (get_or m.transitions (16 * c + this) (pos 0)) _ (from_at _ 0 256 parts.2 (16 * c + this) (omega arith) (omega arith)) (other (eqb c this))
      where
        other : (t : Bool) → cond t 0 (entry_or m.default 0) ≤ 2 ^ 36
        other true = omega arith
        other false = own-small p m.default parts.0

    go : (t : Bool) → m.present ≡ t → cond t (matrix_setup m last this) own ≤ 2 ^ 36
    go false e = o
    go true e = by-matrix last r

pub new-keeps : valid empty_board ≡ true
unfolding empty_board transport_right lookup_to least_from is_at
new-keeps = ruled empty_board (record {
  few = omega arith;
  right = λ i l. absurd (omega arith);
  new = λ i l. absurd (omega arith);
  blank = λ i l m. ap resource_blank (get_or-replicate 16 i blank_resource no_resource m) ∙ blank-right;
  transport = λ k l. rw (get_or-replicate {A = ℕ} 256 k 0 0 l) refl;
})
