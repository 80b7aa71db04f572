-- A resource and its companions by their places: the diaries there are theirs.
use Rattle.std.specs.Prelude.{◌≡◌, ℕ, zero, suc, ◌+◌, ◌<◌, ◌≤◌, true, false, cond, ltb, List, [], ◌∷◌, ◌++◌, map, length, get_or, take, Some, None}
use mathlib.Core.Path.{refl, sym, ap, ◌∙◌}
use mathlib.Core.List.{map-append}
use native.Mathlib.Omega.{arith}
use lib.ListN.{length-map, length-take}
use lib.Seq.{get_or_at, get_or-take, length-take-le, take-length}
use borrow.Author.Tests.{lt-ltb, le-ltb}
use Rattle.cells.specs.Every.{every}
use Rattle.cells.specs.Laws.Basics.{and_split, take_next}
use Rattle.calendar.specs.Search.{Found}
use Rattle.board.specs.declared.Resource.{Resource}
use Rattle.board.specs.declared.Board.{Board}
use Rattle.board.specs.Resources.{on_board, resource_at}
use Rattle.board.specs.Valid.{valid}
use Rattle.board.specs.Laws.Facts.{rules_of}
use Rattle.board.specs.Laws.Seeing.{place-on}
use Rattle.board.specs.Theorems.Meaning.{resource-of}
use Rattle.scheduler.specs.Alone.{Share, one_unit, resource_in, companions_of, with_companions}
use Rattle.cells.specs.Laws.Every.{every-next, every-off}
use Rattle.scheduler.specs.Shares.{no_share}
use Rattle.board.specs.Places.{Known, has_place}
use Rattle.place_companions.specs.Seats.{place_in, seat_of}
use Rattle.board.specs.Laws.Knowing.{number-place}

-- one put behind a list is another cell
behind-other : (xs : List ℕ) (p d i : ℕ) → (length xs ≡ i → ⊥) → get_or (xs ++ (p ∷ [])) i d ≡ get_or xs i d
behind-other [] p d zero e = absurd (e refl)
behind-other [] p d (suc i) e = refl
behind-other (x ∷ xs) p d zero e = refl
behind-other (x ∷ xs) p d (suc i) e = behind-other xs p d i (λ (z : length xs ≡ i). e (ap suc z))

-- units of the diary at a place
abbrev pub share_at : Board → ℕ → ℕ → Share
share_at b place units = record { timeline = (resource_at b place).timeline; units = units }

-- the first j companions have their places
pub record Sits (own : ℕ) (cs places : List ℕ) (i seat j : ℕ) : Type 0 where
  pub all : every (has_place places) (take j cs) ≡ true
  pub here : seat ≡ get_or (own ∷ map (place_in places) (take j cs)) i own

pub sits-none : (own : ℕ) (cs places : List ℕ) (i : ℕ) → Sits own cs places i own 0
unfolding every
sits-none own cs places i = record { all = refl; here = go i }
  where
    go : (i : ℕ) → own ≡ get_or (own ∷ []) i own
    go zero = refl
    go (suc i) = refl

module _ (own : ℕ) (cs places : List ℕ) (i seat j : ℕ) (l : j < length cs) (s : Sits own cs places i seat j) where
  abbrev place : ℕ
  place = place_in places (get_or cs j 0)

  abbrev front : List ℕ
  front = own ∷ map (place_in places) (take j cs)

  more : own ∷ map (place_in places) (take (j + 1) cs) ≡ front ++ (place ∷ [])
  more = rw (take_next cs j 0 l, map-append (place_in places) (take j cs) (get_or cs j 0 ∷ [])) refl

  long : length front ≡ j + 1
  long = omega (arith, length-map (take j cs) (place_in places), length-take-le j cs (omega arith))

  module _ (p : place < 16) where
    next : every (has_place places) (take (j + 1) cs) ≡ true
    next = every-next (has_place places) 0 cs j l s.all (lt-ltb _ _ p)

    -- the next is the one wanted, or another
    pub sits_here : j + 1 ≡ i → Sits own cs places i place (j + 1)
    sits_here e = record { all = next; here = rw more (sym (get_or_at front place [] own i (omega (arith, long)))) }

    pub sits_on : (j + 1 ≡ i → ⊥) → Sits own cs places i seat (j + 1)
    sits_on e = record { all = next; here = rw more (s.here ∙ sym (behind-other front place own i (λ (z : length front ≡ i). e (sym long ∙ z)))) }

  -- or has no place
  pub sits-off : 16 ≤ place → None ≡ seat_of own cs places i
  unfolding seat_of
  sits-off p =
      let off = rw (take-length cs) at (every-off (has_place places) 0 cs j (length cs) l (omega arith) (le-ltb _ _ p)) in
      rw off refl

pub sits-all : (own : ℕ) (cs places : List ℕ) (i seat : ℕ) → Sits own cs places i seat (length cs) → Some seat ≡ seat_of own cs places i
unfolding seat_of
sits-all own cs places i seat s =
    let all = rw (take-length cs) at s.all in
    rw all (ap Some (rw (take-length cs) at s.here))

module _ (b : Board) (v : valid b ≡ true) (places : List ℕ) (known : Known b places) where
  -- a number has a place where it is on the board
  placed-is : (n : ℕ) → n ≤ 15 → has_place places n ≡ on_board b n
  placed-is n l = ap (λ (p : ℕ). ltb p 16) (known n (omega arith)) ∙ place-on b b.len n (rules_of b v).few

  every-placed : (cs : List ℕ) → ((k : ℕ) → k < length cs → get_or cs k 0 ≤ 15) → every (has_place places) cs ≡ every (on_board b) cs
  unfolding every
  every-placed [] small = refl
  every-placed (c ∷ cs) small = rw (placed-is c (small 0 (omega arith)), every-placed cs (λ k l. small (suc k) (omega arith))) refl

  -- the k-th companion's place, and its diary
  companion-at : (cs : List ℕ) → ((k : ℕ) → k < length cs → get_or cs k 0 ≤ 15) → every (on_board b) cs ≡ true → (d k : ℕ) → k < length cs
      → (get_or (map (place_in places) cs) k d < b.len) × (get_or (map (one_unit b) cs) k no_share ≡ share_at b (get_or (map (place_in places) cs) k d) 1)
  unfolding every resource_in
  companion-at [] small e d k l = absurd (omega arith)
  companion-at (c ∷ cs) small e d zero l =
      let on = (and_split (on_board b c) (every (on_board b) cs) e).0 in
      let w = number-place b v places known c on in
      (w.2, ap (λ (f : Found). record { timeline = (resource_in b f).timeline; units = 1 }) w.1)
  companion-at (c ∷ cs) small e d (suc k) l = companion-at cs (λ j m. small (suc j) (omega arith)) (and_split (on_board b c) (every (on_board b) cs) e).1 d k (omega arith)

  module _ (own : ℕ) (there : own < b.len) (usage : ℕ) where
    abbrev r : Resource
    r = resource_at b own

    small : (k : ℕ) → k < length (companions_of r) → get_or (companions_of r) k 0 ≤ 15
    small k l =
        let w = resource-of b v own there in
        omega (arith, get_or-take r.count r.companions k 0 (omega (arith, length-take r.count r.companions)), w.companions k (omega (arith, length-take r.count r.companions)))

    -- a companion that is not on the board has no place
    pub seat-none : (i : ℕ) → every (on_board b) (companions_of r) ≡ false → seat_of own (companions_of r) places i ≡ None
    unfolding seat_of
    seat-none i e = rw (every-placed (companions_of r) small, e) refl

    -- the i-th of the resource and its companions
    module _ (on : every (on_board b) (companions_of r) ≡ true) (i : ℕ) (l : i < length (with_companions b r usage)) where
      seat : (get_or (own ∷ map (place_in places) (companions_of r)) i own < b.len) × (share_at b (get_or (own ∷ map (place_in places) (companions_of r)) i own) (cond (ltb 0 i) 1 usage) ≡ get_or (with_companions b r usage) i no_share)
      unfolding with_companions
      seat = go i l
        where
          go : (i : ℕ) → i < suc (length (map (one_unit b) (companions_of r))) → (get_or (own ∷ map (place_in places) (companions_of r)) i own < b.len) × (share_at b (get_or (own ∷ map (place_in places) (companions_of r)) i own) (cond (ltb 0 i) 1 usage) ≡ get_or (record { timeline = r.timeline; units = usage } ∷ map (one_unit b) (companions_of r)) i no_share)
          go zero m = (there, refl)
          go (suc k) m =
              let w = companion-at (companions_of r) small on own k (omega (arith, length-map (companions_of r) (one_unit b))) in
              (w.0, rw (lt-ltb 0 (suc k) (omega arith)) (sym w.1))

      pub seat-is : seat_of own (companions_of r) places i ≡ Some (get_or (own ∷ map (place_in places) (companions_of r)) i own)
      unfolding seat_of
      seat-is = rw (every-placed (companions_of r) small, on) refl

      -- where it stands
      module _ (p : ℕ) (e : seat_of own (companions_of r) places i ≡ Some p) where
        same : p ≡ get_or (own ∷ map (place_in places) (companions_of r)) i own
        same = let s = seat-is in cc

        pub seat-there : p < b.len
        seat-there = rw same seat.0

        pub seat-share : share_at b p (cond (ltb 0 i) 1 usage) ≡ get_or (with_companions b r usage) i no_share
        seat-share = rw same seat.1
