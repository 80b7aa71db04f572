-- A board stays valid where a resource is replaced by a right one with its number; and the empty board is.
use Rattle.std.specs.Prelude.{Bool, true, false, ◌&&◌, ◌≡◌, refl, ℕ, ◌/◌, ◌%◌, ◌^◌, ◌<◌, leb, eqb, length, get_or}
use Rattle.std.proofs.Math.Bool.{or-true}
use Rattle.std.proofs.Common.{⊎_elim, ◌∙◌, arith, get_or-set_same, get_or-set_other}
use Rattle.std.proofs.Math.Path.{ap}
use Rattle.cells.specs.Laws.Basics.{and_split, same_or_not}
use Rattle.calendar.specs.Search.{Found, nothing, at, is_at}
use Rattle.calendar.specs.Laws.Searching.{least-same}
use Rattle.cells.specs.Every.{every_from}
use Rattle.board.specs.Enter.{with_resource, changed}
use Rattle.board.specs.Resources.{blank_resource, no_resource, resource_at, number_at, lookup_to, lookup, on_board}
use Rattle.board.specs.Valid.{is_zero, matrix_right, companions_right, resource_right, diary_blank, last_blank, resource_blank, transport_cell, transport_right, valid}
use Rattle.board.specs.declared.Board.{Board}
use Rattle.board.specs.declared.Resource.{Resource}
use Rattle.board.specs.Laws.Facts.{rules_of, ruled}
use Rattle.board.specs.Laws.Seeing.{lookup-below}
use Rattle.calendar.specs.Add.{empty}
use Rattle.timeline.specs.Diary.{diary}
use Rattle.timeline.specs.Laws.Keeping as timeline

-- two boards with the same numbers
pub lookup-same : (b c : Board) (n number : ℕ) → ((k : ℕ) → k < n → number_at c k ≡ number_at b k) → lookup_to c n number ≡ lookup_to b n number
unfolding lookup_to
lookup-same b c n number f = least-same _ _ 0 n (λ x l m. rw (f x (omega arith)) refl)

-- a transport stays right where more numbers are on the board
pub widened : (ms : ℕ) (p q x y : Bool) → (p ≡ true → x ≡ true) → (q ≡ true → y ≡ true) → transport_cell ms p q ≡ true → transport_cell ms x y ≡ true
widened ms true true x y f g h = rw (f refl, g refl) h
widened ms true false x y f g h =
    let w = and_split (leb ms (2 ^ 36)) (eqb ms 0) h in
    rw (w.0, w.1, or-true (x && y)) refl
widened ms false q x y f g h =
    let w = and_split (leb ms (2 ^ 36)) (eqb ms 0) h in
    rw (w.0, w.1, or-true (x && y)) refl

-- one resource replaced by another with its number
module _ (b : Board) (i : ℕ) (r : Resource) (long : length b.resources ≡ 16) (v : valid b ≡ true) (l : i < b.len)
    (h : resource_right r ≡ true) (e : r.number ≡ number_at b i) where
  here : resource_at (with_resource b i r) i ≡ r
  here = get_or-set_same b.resources i r no_resource (omega (arith, (rules_of b v).few))

  there : (j : ℕ) → (j ≡ i → ⊥) → resource_at (with_resource b i r) j ≡ resource_at b j
  there j ne = get_or-set_other b.resources i j r no_resource ne

  numbers : (j : ℕ) → number_at (with_resource b i r) j ≡ number_at b j
  numbers j =
      ⊎_elim
      (λ (q : i ≡ j). rw (← q) (ap (λ (x : Resource). x.number) here ∙ e))
      (λ (q : j ≡ i → ⊥). ap (λ (x : Resource). x.number) (there j q))
      (same_or_not i j)

  transports : (k : ℕ) → transport_right b k ≡ true → transport_right (with_resource b i r) k ≡ true
  unfolding transport_right
  transports k t =
      widened (get_or b.transport k 0) (on_board b (k / 16)) (on_board b (k % 16)) _ _
      (λ o. ap is_at (lookup-same b (with_resource b i r) b.len (k / 16) (λ j m. numbers j)) ∙ o)
      (λ o. ap is_at (lookup-same b (with_resource b i r) b.len (k % 16) (λ j m. numbers j)) ∙ o)
      t

  pub valid-with : valid (with_resource b i r) ≡ true
  valid-with =
      let u = rules_of b v in
      ruled (with_resource b i r) (record {
        few = u.few;
        right = λ j m.
            ⊎_elim
            (λ (q : i ≡ j). rw (← q) (ap resource_right here ∙ h))
            (λ (q : j ≡ i → ⊥). ap resource_right (there j q) ∙ u.right j m)
            (same_or_not i j);
        new = λ j m. ap is_at (ap (λ (n : ℕ). lookup_to (with_resource b i r) j n) (numbers j) ∙ lookup-same b (with_resource b i r) j (number_at b j) (λ k w. numbers k)) ∙ u.new j m;
        blank = λ j m w. ap resource_blank (there j (λ q. omega (arith, q))) ∙ u.blank j m w;
        transport = λ k m. transports k (u.transport k m);
      })

pub changed-keeps : (b : Board) (number : ℕ) (g : Resource → Resource) → length b.resources ≡ 16 → valid b ≡ true
    → ((k : ℕ) → k < b.len → (resource_right (g (resource_at b k)) ≡ true) × ((g (resource_at b k)).number ≡ number_at b k))
    → valid (changed b (lookup b number) g) ≡ true
unfolding changed
changed-keeps b number g long v f = go (lookup b number) refl
  where
    go : (x : Found) → lookup b number ≡ x → valid (changed b x g) ≡ true
    go nothing e = v
    go (at k) e =
        let m = lookup-below b b.len number k e in
        let w = f k m in
        valid-with b k (g (resource_at b k)) long v m w.0 w.1

-- a board with no resource keeps the rules
pub blank-right : resource_blank blank_resource ≡ true
unfolding resource_blank companions_right diary_blank diary empty matrix_right is_zero last_blank every_from
blank-right = rw timeline.blank-right refl
