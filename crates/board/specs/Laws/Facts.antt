-- The rules of a board as facts, from the test and back; how the test goes on by one cell.
use Rattle.std.proofs.lemmas.Bool.{not-true, lt-leb}
use Rattle.std.proofs.Common.{leb-true, lt-ltb, le-ltb, le-leb, ⊎_elim, sym, ◌∙◌, arith}
use Rattle.std.specs.Prelude.{true, false, not, ◌&&◌, ◌≡◌, ℕ, suc, ◌+◌, ◌-◌, ◌≤◌, ◌<◌, leb, ltb}
use Rattle.std.proofs.Math.Path.{refl}
use Rattle.std.proofs.Math.Numerals.{lt_of_le_of_ne}
use Rattle.cells.specs.Laws.Basics.{and_split, and-join, lt-or-ge}
use Rattle.calendar.specs.Search.{Found, nothing, at, is_at}
use Rattle.board.specs.Resources.{resource_at, number_at, lookup_to, lookup}
use Rattle.board.specs.Valid.{resource_right, resource_blank, cell_right, transport_right, valid}
use Rattle.board.specs.declared.Board.{Board}
use Rattle.board.specs.declared.Resource.{Resource}
use Rattle.cells.specs.Every.{every_from}
use Rattle.cells.specs.Laws.Every.{from_step, from_end, from_at, from_all}
use Rattle.board.specs.Laws.Seeing.{lookup-below, lookup-number}

pub resource-number : (r : Resource) → resource_right r ≡ true → r.number ≤ 15
unfolding resource_right
resource-number r h = leb-true r.number 15 (and_split _ _ h).0

-- cell i by the length
module _ (b : Board) (i : ℕ) where
  cell-is : i < b.len → cell_right b i ≡ resource_right (resource_at b i) && not (is_at (lookup_to b i (number_at b i)))
  unfolding cell_right
  cell-is l = rw (lt-ltb i b.len l) refl

  pub cell-past : b.len ≤ i → cell_right b i ≡ resource_blank (resource_at b i)
  unfolding cell_right
  cell-past l = rw (le-ltb i b.len l) refl

  pub cell-wrong : i < b.len → resource_right (resource_at b i) ≡ false → cell_right b i ≡ false
  cell-wrong l e = cell-is l ∙ rw e refl

  pub cell-twice : i < b.len → resource_right (resource_at b i) ≡ true → is_at (lookup_to b i (number_at b i)) ≡ true → cell_right b i ≡ false
  cell-twice l e f = cell-is l ∙ rw (e, f) refl

  pub cell-right : i < b.len → resource_right (resource_at b i) ≡ true → is_at (lookup_to b i (number_at b i)) ≡ false → cell_right b i ≡ true
  cell-right l e f = cell-is l ∙ rw (e, f) refl

-- the test, over its cells
pub valid-long : (b : Board) → 16 < b.len → valid b ≡ false
unfolding valid
valid-long b l = rw (lt-leb b.len 16 l) refl

pub valid-start : (b : Board) → b.len ≤ 16 → valid b ≡ every_from (cell_right b) 0 16 && every_from (transport_right b) 0 256
unfolding valid
valid-start b l = rw (le-leb b.len 16 l) refl

module _ (b : Board) (i : ℕ) (l : i < 16) (v : valid b ≡ every_from (cell_right b) i (16 - i) && every_from (transport_right b) 0 256) where
  pub valid-stop : cell_right b i ≡ false → valid b ≡ false
  valid-stop e = v ∙ rw (from_step (cell_right b) i 16 l, e) refl

  pub valid-next : cell_right b i ≡ true → valid b ≡ every_from (cell_right b) (i + 1) (16 - (i + 1)) && every_from (transport_right b) 0 256
  valid-next e = v ∙ rw (from_step (cell_right b) i 16 l, e) refl

pub valid-end : (b : Board) (i : ℕ) → 16 ≤ i → valid b ≡ every_from (cell_right b) i (16 - i) && every_from (transport_right b) 0 256 → valid b ≡ every_from (transport_right b) 0 256
valid-end b i l v = v ∙ rw (from_end (cell_right b) i 16 l) refl

pub record BoardRules (b : Board) : Type 0 where
  pub few : b.len ≤ 16
  pub right : (i : ℕ) → i < b.len → resource_right (resource_at b i) ≡ true
  pub new : (i : ℕ) → i < b.len → is_at (lookup_to b i (number_at b i)) ≡ false
  pub blank : (i : ℕ) → b.len ≤ i → i < 16 → resource_blank (resource_at b i) ≡ true
  pub transport : (k : ℕ) → k < 256 → transport_right b k ≡ true

pub rules_of : (b : Board) → valid b ≡ true → BoardRules b
unfolding valid
rules_of b h =
    let p = and_split (leb b.len 16) (every_from (cell_right b) 0 16 && every_from (transport_right b) 0 256) h in
    let q = and_split (every_from (cell_right b) 0 16) (every_from (transport_right b) 0 256) p.1 in
    let few : b.len ≤ 16 = leb-true b.len 16 p.0 in
    record {
      few = few;
      right = λ i l. (and_split (resource_right (resource_at b i)) (not (is_at (lookup_to b i (number_at b i)))) (sym (cell-is b i l) ∙ from_at (cell_right b) 0 16 q.0 i (omega arith) (omega arith))).0;
      new = λ i l. not-true (is_at (lookup_to b i (number_at b i))) (and_split (resource_right (resource_at b i)) (not (is_at (lookup_to b i (number_at b i)))) (sym (cell-is b i l) ∙ from_at (cell_right b) 0 16 q.0 i (omega arith) (omega arith))).1;
      blank = λ i l m. sym (cell-past b i l) ∙ from_at (cell_right b) 0 16 q.0 i (omega arith) (omega arith);
      transport = λ k l. from_at (transport_right b) 0 256 q.1 k (omega arith) (omega arith);
    }

pub ruled : (b : Board) → BoardRules b → valid b ≡ true
unfolding valid
ruled b r =
    and-join _ _ (le-leb b.len 16 r.few)
    (and-join _ _
    (from_all (cell_right b) 0 16 (λ i z l.
    ⊎_elim
    (λ (m : i < b.len). cell-right b i m (r.right i m) (r.new i m))
    (λ (m : b.len ≤ i). cell-past b i m ∙ r.blank i m (omega arith))
    (lt-or-ge i b.len)))
    (from_all (transport_right b) 0 256 (λ k z l. r.transport k (omega arith))))

-- a number above 15 is not on a board that keeps the rules
pub off-above : (b : Board) (n : ℕ) → valid b ≡ true → 15 < n → lookup b n ≡ nothing
off-above b n v l = go (lookup b n) refl
  where
    go : (f : Found) → lookup b n ≡ f → f ≡ nothing
    go nothing e = refl
    go (at k) e =
        let r = rules_of b v in
        let m = lookup-below b b.len n k e in
        absurd (omega (arith, resource-number _ (r.right k m), lookup-number b b.len n k e))

-- below a number or the next one, where it is another
pub same-side : (a m : ℕ) → (m ≡ a → ⊥) → ltb a (suc m) ≡ ltb a m
same-side a m ne =
    ⊎_elim
    (λ (l : a < m). lt-ltb a (suc m) (omega arith) ∙ sym (lt-ltb a m l))
    (λ (l : m ≤ a). le-ltb a (suc m) (lt_of_le_of_ne l ne) ∙ sym (le-ltb a m l))
    (lt-or-ge a m)
