-- The table of places against the board, and the setup by a matrix.
use borrow.Author.Tests.{leb-true, eq-eqb, ne_eqb}
use Rattle.std.specs.Prelude.{true, false, List, Option, Some, None, ◌≡◌, ℕ, suc, ◌+◌, ◌*◌, ◌/◌, ◌%◌, ◌≤◌, ◌<◌, min, ltb, pos, get_or, set}
use Rattle.std.proofs.Math.Path.{refl}
use Rattle.std.proofs.Common.{arith}
use Rattle.board.specs.Resources.{number_at, lookup_to}
use Rattle.calendar.specs.Search.{is_at}
use Rattle.cells.specs.Every.{every_from}
use Rattle.cells.specs.Laws.Every.{from-same}
use Rattle.board.specs.Setups.{entry_or, matrix_setup, setup_ms}
use Rattle.board.specs.declared.TransitionMatrix.{TransitionMatrix}
use Rattle.board.specs.Valid.{last_right, transport_cell, transport_right}
use Rattle.board.specs.declared.Board.{Board}
use Rattle.board.specs.Laws.Seeing.{Seen, seen-on, seen_more}

pub seen_next : (b : Board) (i : ℕ) (places : List ℕ) → Seen b (min i b.len) places → i < b.len → number_at b i < 16 → is_at (lookup_to b i (number_at b i)) ≡ false
    → Seen b (min (i + 1) b.len) (set places (number_at b i) i)
seen_next b i places s l m e =
    let p : min i b.len ≡ i = omega arith in
    let q : min (i + 1) b.len ≡ suc i = omega arith in
    rw q (seen_more b i places (rw p at s) m e)

pub seen-past : (b : Board) (i : ℕ) (places : List ℕ) → Seen b (min i b.len) places → b.len ≤ i → Seen b (min (i + 1) b.len) places
seen-past b i places s l =
    let p : min i b.len ≡ min (i + 1) b.len = omega arith in
    rw p at s

-- whether the number of cell i stood before it
pub seen_at : (b : Board) (i n : ℕ) (places : List ℕ) → Seen b (min i b.len) places → i < b.len → i ≤ 16 → n < 16 → ltb (get_or places n 0) 16 ≡ is_at (lookup_to b i n)
seen_at b i n places s l m k =
    let p : min i b.len ≡ i = omega arith in
    seen-on b i n places (rw p at s) k m

pub transport_same : (b : Board) (places : List ℕ) → Seen b b.len places → b.len ≤ 16
    → every_from (λ k. transport_cell (get_or b.transport k 0) (ltb (get_or places (k / 16) 0) 16) (ltb (get_or places (k % 16) 0) 16)) 0 256 ≡ every_from (transport_right b) 0 256
unfolding transport_right
transport_same b places s l =
    from-same _ _ 0 256 (λ k z m. rw (seen-on b b.len (k / 16) places s (omega arith) l, seen-on b b.len (k % 16) places s (omega arith) l) refl)

pub read_all : (b : Board) (i : ℕ) (places : List ℕ) → Seen b (min i b.len) places → b.len ≤ i → Seen b b.len places
read_all b i places s l =
    let p : min i b.len ≡ b.len = omega arith in
    rw p at s

-- the setups by a matrix
pub last-small : (last : Option ℕ) (l : ℕ) → last ≡ Some l → last_right last ≡ true → l ≤ 15
unfolding last_right
last-small last l e h = leb-true l 15 (rw e at h)

module _ (m : TransitionMatrix) (last : Option ℕ) (this own : ℕ) where
  pub setup-own : m.present ≡ false → own ≡ setup_ms m last this own
  unfolding setup_ms
  setup-own p = simp p

  pub setup-first : m.present ≡ true → last ≡ None → entry_or (get_or m.initials this (pos 0)) (entry_or m.initial 0) ≡ setup_ms m last this own
  unfolding setup_ms matrix_setup
  setup-first p q = rw (q, p) refl

  pub setup-equal : (l : ℕ) → m.present ≡ true → last ≡ Some l → l ≡ this → entry_or (get_or m.transitions (16 * l + this) (pos 0)) 0 ≡ setup_ms m last this own
  unfolding setup_ms matrix_setup
  setup-equal l p q e = rw (q, eq-eqb l this e, p) refl

  pub setup-other : (l : ℕ) → m.present ≡ true → last ≡ Some l → (l ≡ this → ⊥)
      → entry_or (get_or m.transitions (16 * l + this) (pos 0)) (entry_or m.default 0) ≡ setup_ms m last this own
  unfolding setup_ms matrix_setup
  setup-other l p q e = rw (q, ne_eqb l this e, p) refl
