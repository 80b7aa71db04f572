-- Booking the lines of a slate: what holds of the board and of the lines that are left, one line more.
use Rattle.std.specs.Prelude.{Some}
use mathlib.Core.Path.{◌≡◌, refl, sym, ap, ◌∙◌, subst}
use mathlib.Core.Bool.{Bool, true, false, cond}
use mathlib.Core.List.{List, [], ◌∷◌, map}
use Prim.Native.Nat.{ℕ, suc, ◌+◌, ◌-◌, ◌^◌, ◌≤◌, ◌<◌}
use native.Mathlib.Omega.{arith}
use lib.ListN.{length, get_or, drop, take}
use lib.Dec.{leb, ltb, eqb}
use lib.Seq.{drop-cons, get_or-take, take-length}
use borrow.Author.Tests.{lt-leb, le-ltb, eq-eqb}
use Rattle.calendar.specs.Search.{at}
use Rattle.timeline.specs.declared.Booked.{Booked}
use Rattle.timeline.specs.declared.ResourceTimeline.{ResourceTimeline}
use Rattle.timeline.specs.Book.{book_refusal, taken, book_reply, with_booking}
use Rattle.timeline.specs.Valid as timeline
use Rattle.board.specs.declared.Resource.{Resource}
use Rattle.board.specs.declared.Board.{Board}
use Rattle.board.specs.Resources.{with_timeline, with_last, resource_at, lookup}
use Rattle.board.specs.Places.{place_of, Known}
use Rattle.board.specs.Valid as board
use Rattle.board.specs.Enter.{with_resource, changed}
use Rattle.board.specs.Laws.Facts.{rules_of}
use Rattle.board.specs.Theorems.Meaning.{resource-of}
use Rattle.scheduler.specs.Alone.{diary_of}
use Rattle.scheduler.specs.Rows.{Row, number_in, units_in, is_companion}
use Rattle.scheduler.specs.Committing.{Line, line_with, line_of, lines_of, entries_on, last_after, booked, book_all, Bookable}
use Rattle.scheduler.specs.Laws.Committed.{BookableLine, Room, step-long, lookup-after, after-keeps, right-after, room_after}
use Rattle.cells.specs.Every.{Each}
use Rattle.cells.specs.Laws.Each.{each_weaken, each_first, each-rest}
use Rattle.scheduler.specs.Laws.Ruled.{diary-at}
use Rattle.board.specs.Laws.Knowing.{number-place}
use Rattle.commit_checks.proofs.Refusing.{Commitment, whole_of, Fine}

-- a booking that is not refused
pub book-taken : (t : ResourceTimeline) (start end category u : ℕ) → timeline.valid t ≡ true → t.len < 64 → Bookable start end category → 1 ≤ u → u ≤ 10000
    → book_reply t start end u ≡ record { refusal = 0; timeline = with_booking t start end u }
unfolding book_reply book_refusal taken
book-taken t start end category u v room w some few =
    let s : ltb (2 ^ 42) start ≡ false = le-ltb (2 ^ 42) start (omega (arith, w.order, w.range)) in
    let e : ltb (2 ^ 42) end ≡ false = le-ltb (2 ^ 42) end w.range in
    let o : leb end start ≡ false = lt-leb end start w.order in
    let m : ltb u 1 ≡ false = le-ltb u 1 some in
    let n : ltb 10000 u ≡ false = le-ltb 10000 u few in
    let f : leb 64 t.len ≡ false = lt-leb 64 t.len room in
    rw (v, s, e, o, m, n, f) refl

-- the diary that it hands back
pub booked-diary : (t : ResourceTimeline) (start end category u : ℕ) (b : Booked) → timeline.valid t ≡ true → t.len < 64 → Bookable start end category → 1 ≤ u → u ≤ 10000
    → b ≡ book_reply t start end u → b.timeline ≡ with_booking t start end u
booked-diary t start end category u b v room w some few e = ap (λ (x : Booked). x.timeline) (e ∙ book-taken t start end category u v room w some few)

module _ (r : Resource) (t : ResourceTimeline) (start end category : ℕ) (l : Line) (e : t ≡ with_booking r.timeline start end l.units) where
  -- with a matrix, and not as a companion
  pub booked-category : r.matrix.present ≡ true → l.companion ≡ false → with_last (Some category) (with_timeline t r) ≡ booked start end category l r
  unfolding booked last_after
  booked-category p q = rw (e, p, q) refl

  pub booked-companion : l.companion ≡ true → r.matrix.present ≡ true → with_timeline t r ≡ booked start end category l r
  unfolding booked last_after
  booked-companion q p = rw (e, p, q) refl

  pub booked-plain : r.matrix.present ≡ false → with_timeline t r ≡ booked start end category l r
  unfolding booked last_after
  booked-plain p = rw (e, p) refl

-- the lines that are left
abbrev pub lines_from : Commitment → ℕ → List Line
lines_from k i = lines_of (k.count - i) (drop i k.slate)

lines_left : (k : Commitment) (i : ℕ) → i < k.count → k.count ≤ length k.slate → lines_from k i ≡ line_of (get_or k.slate i []) ∷ lines_from k (i + 1)
unfolding lines_of
lines_left k i l m =
    let z : k.count - i ≡ suc (k.count - (i + 1)) = omega arith in
    let y : i + 1 ≡ suc i = omega arith in
    rw (z, drop-cons k.slate i [] (omega arith), y) refl

lines_none : (k : Commitment) (i : ℕ) → k.count ≤ i → lines_from k i ≡ []
unfolding lines_of
lines_none k i l =
    let z : k.count - i ≡ 0 = omega arith in
    rw z refl

-- booking the lines left on this board makes the whole
pub record Ahead (k : Commitment) (places : List ℕ) (b : Board) (ls : List Line) : Type 0 where
  pub long : length b.resources ≡ 16
  pub valid : board.valid b ≡ true
  pub known : Known b places
  pub right : Each (BookableLine b) ls
  pub room : Room b ls
  pub same : book_all k.start k.end k.category ls b ≡ whole_of k

-- the diary at a number's place takes a booking of these units
pub record Here (b : Board) (number place units : ℕ) : Type 0 where
  pub low : number < 16
  pub found : lookup b number ≡ at place
  pub place_low : place < 16
  pub kept : timeline.valid (resource_at b place).timeline ≡ true
  pub free : (resource_at b place).timeline.len < 64
  pub some : 1 ≤ units
  pub few : units ≤ 10000

ahead_none : (k : Commitment) (places : List ℕ) (b : Board) (ls : List Line) → ls ≡ [] → Ahead k places b ls → b ≡ whole_of k
unfolding book_all
ahead_none k places b ls e a = sym (ap (λ (ms : List Line). book_all k.start k.end k.category ms b) e) ∙ a.same

module _ (k : Commitment) (places : List ℕ) (b : Board) (l : Line) (ls : List Line) (a : Ahead k places b (l ∷ ls)) where
  abbrev place : ℕ
  place = get_or places l.number 0

  mine : BookableLine b l
  mine = each_first (BookableLine b) l ls a.right

  has_room : (diary_of b l.number).len < 64
  unfolding entries_on
  has_room =
      let e : eqb l.number l.number ≡ true = eq-eqb l.number l.number refl in
      let m : (diary_of b l.number).len + (cond (eqb l.number l.number) 1 0 + entries_on l.number ls) ≤ 64 = a.room l.number mine.on in
      let g : (diary_of b l.number).len + (1 + entries_on l.number ls) ≤ 64 = rw e at m in
      omega arith

  ahead-here : Here b l.number place l.units
  ahead-here =
      let w = number-place b a.valid places a.known l.number mine.on in
      record {
        low = w.0;
        found = w.1;
        place_low = omega (arith, w.2, (rules_of b a.valid).few);
        kept = (resource-of b a.valid place w.2).timeline;
        free = subst (λ (t : ResourceTimeline). t.len < 64) (diary-at b l.number place w.1) has_room;
        some = mine.some;
        few = mine.few;
      }

  abbrev after : Board
  after = changed b (lookup b l.number) (booked k.start k.end k.category l)

  module _ (w : Bookable k.start k.end k.category) where
    go_on : Ahead k places after ls
    unfolding book_all
    go_on = record {
      long = step-long k.start k.end k.category b l (lookup b l.number) ∙ a.long;
      valid = after-keeps k.start k.end k.category w b a.long a.valid l mine has_room;
      known = λ n m. a.known n m ∙ sym (ap place_of (lookup-after k.start k.end k.category w b a.long a.valid l mine n));
      right = each_weaken (BookableLine b) (BookableLine after) ls (right-after k.start k.end k.category w b a.long a.valid l mine) (each-rest (BookableLine b) l ls a.right);
      room = room_after k.start k.end k.category w b a.long a.valid l mine ls a.room;
      same = a.same;
    }

    -- the line is booked at its place
    ahead-next : (x : Resource) → x ≡ booked k.start k.end k.category l (resource_at b place) → Ahead k places (with_resource b place x) ls
    unfolding changed
    ahead-next x e =
        let z : after ≡ with_resource b place x = rw (ahead-here.found, e) refl in
        subst (λ (n : Board). Ahead k places n ls) z go_on

-- what holds before row i of the slate is booked on this board
pub record Left (k : Commitment) (places : List ℕ) (b : Board) (i : ℕ) : Type 0 where
  pub enough : k.count ≤ length k.slate
  pub bookable : 0 < k.count → Bookable k.start k.end k.category
  pub ahead : Ahead k places b (lines_from k i)

pub left-all : (k : Commitment) (places : List ℕ) → length k.board.resources ≡ 16 → Known k.board places → Fine k → Left k places k.board 0
left-all k places long known f =
    let z : k.count - 0 ≡ k.count = omega arith in
    record {
      enough = f.enough;
      bookable = f.bookable;
      ahead = rw z (record { long = long; valid = f.valid; known = known; right = f.right; room = f.room; same = refl });
    }

pub left-none : (k : Commitment) (places : List ℕ) (b : Board) (i : ℕ) → Left k places b i → k.count ≤ i → b ≡ whole_of k
left-none k places b i a l = ahead_none k places b (lines_from k i) (lines_none k i l) a.ahead

module _ (k : Commitment) (places : List ℕ) (b : Board) (i : ℕ) (a : Left k places b i) (l : i < k.count) where
  abbrev row : Row
  row = get_or k.slate i []

  left : Ahead k places b (line_of row ∷ lines_from k (i + 1))
  left = subst (Ahead k places b) (lines_left k i l a.enough) a.ahead

  pub left-bookable : Bookable k.start k.end k.category
  left-bookable = a.bookable (omega arith)

  -- the code goes over the first rows alone
  abbrev read : Row
  read = get_or (take k.count k.slate) i []

  row_read : read ≡ row
  row_read = get_or-take k.count k.slate i [] l

  -- what the code read of the row
  module _ (n : ℕ) (e : n ≡ number_in read) where
    pub row_here : Here b n (get_or places n 0) (units_in read)
    unfolding line_of
    row_here = rw (e, row_read) (ahead-here k places b (line_of row) (lines_from k (i + 1)) left)

    -- what is booked does not depend on the number that the line names
    pub row_next : (units : ℕ) (companion : Bool) → units ≡ units_in read → companion ≡ is_companion read
        → (x : Resource) (name : ℕ) → x ≡ booked k.start k.end k.category (line_with name units companion) (resource_at b (get_or places n 0))
        → Left k places (with_resource b (get_or places n 0) x) (i + 1)
    unfolding line_of booked
    row_next units companion f g x name h = record {
      enough = a.enough;
      bookable = a.bookable;
      ahead = rw (e, row_read) (ahead-next k places b (line_of row) (lines_from k (i + 1)) left left-bookable x (rw (e, f, g, row_read) at h));
    }

-- the lines of the first rows are those of the slate
pub lines_first : (count : ℕ) (slate : List Row) → lines_of (length (take count slate)) (take count slate) ≡ lines_of count slate
unfolding lines_of
lines_first count slate = ap (map line_of) (take-length (take count slate))
