-- The entries of a commitment booked one after another: what a step leaves as it is, and that it keeps the rules.
use Rattle.std.specs.Prelude.{◌≡◌, Bool, ◌&&◌, ◌||◌, ℕ, ◌+◌, ◌≤◌, ◌<◌, length, leb, ltb, Option, Some, None}
use Rattle.std.proofs.Math.Path.{refl, sym, ap, subst}
use Rattle.std.proofs.Common.{◌∙◌, get_or-set_same}
use Rattle.std.proofs.Math.Bool.{true, false, not, cond}
use mathlib.Core.List.{List, [], ◌∷◌}
use Rattle.std.proofs.Math.Logic.{⊎_elim}
use native.Mathlib.Omega.{arith}
use Rattle.std.proofs.Math.ListN.{length-set}
use Rattle.std.proofs.Math.Dec.{eqb}
use Rattle.std.proofs.Math.Seq.{get_or-set_other}
use borrow.Author.Tests.{leb-true, ltb-false, leb-false, le-leb, eqb-true, eqb-false, eq-eqb, not-false}
use Rattle.calendar.specs.Limits.{last_instant, most_units}
use Rattle.cells.specs.Laws.Basics.{and_split, and-join, lt-or-ge, same_or_not, unrefused, or_left, or_right}
use Rattle.calendar.specs.Search.{Found, nothing, at, when, is_at}
use Rattle.timeline.specs.declared.ResourceTimeline.{ResourceTimeline}
use Rattle.timeline.specs.Bookings.{booking, Booking, bookings, times}
use Rattle.timeline.specs.Diary.{insert_by_start, insert_booking, diary}
use Rattle.timeline.specs.Laws.Rules as timeline-rules
use Rattle.timeline.specs.Laws.Rows.{count}
use Rattle.timeline.specs.Laws.Inserting.{length_inserted}
use Rattle.timeline.specs.Laws.Keeping.{booked-keeps, bookings-diary}
use Rattle.cells.specs.Every.{every, Each, each_end, each_on}
use Rattle.board.specs.declared.Resource.{Resource}
use Rattle.board.specs.declared.Board.{Board}
use Rattle.board.specs.Resources.{no_resource, resource_at, number_at, lookup_to, lookup, on_board}
use Rattle.board.specs.Valid as board
use Rattle.board.specs.Enter.{changed}
use Rattle.board.specs.Laws.Facts.{rules_of}
use Rattle.board.specs.Theorems.Meaning.{lookup-means, resource-rules}
use Rattle.board.specs.Laws.Keeping.{lookup-same, valid-with}
use Rattle.scheduler.specs.Alone.{resource_in, diary_of}
use Rattle.scheduler.specs.Laws.AlikeDiaries.{same_alike}
use Rattle.timeline.specs.Book.{with_booking}
use Rattle.scheduler.specs.Committing.{takes_category, Line, entries_on, lines_refusal, last_after, booked, book_all, Framed, Bookable}
use Rattle.cells.specs.Laws.Each.{each_weaken}
use Rattle.scheduler.specs.Laws.Ruled.{on-valid}
use Rattle.board.specs.Laws.Knowing.{on-place}

module _ (start end category : ℕ) where
  -- a resource that an entry does not name stays as it is
  pub step_same : (b : Board) (l : Line) (i : ℕ) → (number_at b i ≡ l.number → ⊥) → resource_at (changed b (lookup b l.number) (booked start end category l)) i ≡ resource_at b i
  unfolding changed
  step_same b l i ne = go (lookup b l.number) refl
    where
      go : (f : Found) → lookup b l.number ≡ f → resource_at (changed b f (booked start end category l)) i ≡ resource_at b i
      go nothing e = refl
      go (at j) e = get_or-set_other b.resources j i (booked start end category l (resource_at b j)) no_resource (λ z. ne (rw z (lookup-means b l.number j e).1))

  -- the numbers, the length and the transport stay
  pub step-number : (b : Board) (l : Line) (i : ℕ) → i < length b.resources → number_at (changed b (lookup b l.number) (booked start end category l)) i ≡ number_at b i
  unfolding changed booked
  step-number b l i h = go (lookup b l.number)
    where
      go : (f : Found) → number_at (changed b f (booked start end category l)) i ≡ number_at b i
      go nothing = refl
      go (at j) =
          ⊎_elim
          (λ (e : j ≡ i). rw (← e) (ap (λ (x : Resource). x.number) (get_or-set_same b.resources j (booked start end category l (resource_at b j)) no_resource (rw e h))))
          (λ (e : i ≡ j → ⊥). ap (λ (x : Resource). x.number) (get_or-set_other b.resources j i (booked start end category l (resource_at b j)) no_resource e))
          (same_or_not j i)

  pub step-len : (b : Board) (l : Line) (f : Found) → (changed b f (booked start end category l)).len ≡ b.len
  unfolding changed
  step-len b l nothing = refl
  step-len b l (at j) = refl

  pub step-transport : (b : Board) (l : Line) (f : Found) → (changed b f (booked start end category l)).transport ≡ b.transport
  unfolding changed
  step-transport b l nothing = refl
  step-transport b l (at j) = refl

  pub step-long : (b : Board) (l : Line) (f : Found) → length (changed b f (booked start end category l)).resources ≡ length b.resources
  unfolding changed
  step-long b l nothing = refl
  step-long b l (at j) = length-set b.resources j (booked start end category l (resource_at b j))

-- a booking more: every booking is kept
inserted-more : (x b : Booking) (xs : List Booking) → times b xs ≤ times b (insert_booking x xs)
unfolding times insert_by_start
inserted-more x b [] = omega arith
inserted-more x b (y ∷ ys) = go (leb y.start x.start) (inserted-more x b ys)
  where
    go : (q : Bool) → times b ys ≤ times b (insert_booking x ys) → times b (y ∷ ys) ≤ times b (cond q (y ∷ insert_booking x ys) (x ∷ y ∷ ys))
    go true h = omega arith
    go false h = omega arith

pub framed_self : (r : Resource) → Framed r r
framed_self r = record { number_same = refl; kind_same = refl; skills_same = refl; companions_same = refl; count_same = refl; matrix_same = refl; diary_alike = same_alike r.timeline }

pub framed-on : (r s t : Resource) → Framed r s → Framed s t → Framed r t
framed-on r s t p q = record {
  number_same = p.number_same ∙ q.number_same;
  kind_same = p.kind_same ∙ q.kind_same;
  skills_same = p.skills_same ∙ q.skills_same;
  companions_same = p.companions_same ∙ q.companions_same;
  count_same = p.count_same ∙ q.count_same;
  matrix_same = p.matrix_same ∙ q.matrix_same;
  diary_alike = record {
    capacity_same = p.diary_alike.capacity_same ∙ q.diary_alike.capacity_same;
    calendar_same = p.diary_alike.calendar_same ∙ q.diary_alike.calendar_same;
    more = λ b. omega (arith, p.diary_alike.more b, q.diary_alike.more b);
  };
}

module _ (start end category : ℕ) where
  pub booked-framed : (l : Line) (r : Resource) → Framed r (booked start end category l r)
  unfolding booked diary
  booked-framed l r =
      let x = booking start end l.units in
      let t = r.timeline in
      record {
        number_same = refl;
        kind_same = refl;
        skills_same = refl;
        companions_same = refl;
        count_same = refl;
        matrix_same = refl;
        diary_alike = record {
          capacity_same = refl;
          calendar_same = refl;
          more = λ b. rw (bookings-diary t.capacity t.calendar (insert_booking x (bookings t))) (inserted-more x b (bookings t));
        };
      }

  pub step-framed : (b : Board) (l : Line) (i : ℕ) → i < length b.resources
      → Framed (resource_at b i) (resource_at (changed b (lookup b l.number) (booked start end category l)) i)
  unfolding changed
  step-framed b l i h = go (lookup b l.number)
    where
      go : (f : Found) → Framed (resource_at b i) (resource_at (changed b f (booked start end category l)) i)
      go nothing = framed_self (resource_at b i)
      go (at j) =
          ⊎_elim
          (λ (e : j ≡ i). rw (← e) (subst (Framed (resource_at b j)) (sym (get_or-set_same b.resources j (booked start end category l (resource_at b j)) no_resource (rw e h))) (booked-framed l (resource_at b j))))
          (λ (e : i ≡ j → ⊥). subst (Framed (resource_at b i)) (sym (get_or-set_other b.resources j i (booked start end category l (resource_at b j)) no_resource e)) (framed_self (resource_at b i)))
          (same_or_not j i)

  pub step-last : (b : Board) (l : Line) (i : ℕ) → i < length b.resources → takes_category (resource_at b i) l ≡ false
      → (resource_at (changed b (lookup b l.number) (booked start end category l)) i).last ≡ (resource_at b i).last
  unfolding changed booked last_after
  step-last b l i h off = go (lookup b l.number) refl
    where
      go : (f : Found) → lookup b l.number ≡ f → (resource_at (changed b f (booked start end category l)) i).last ≡ (resource_at b i).last
      go nothing e = refl
      go (at j) e =
          ⊎_elim
          (λ (q : j ≡ i).
          let n : eqb l.number (number_at b i) ≡ true = eq-eqb l.number (number_at b i) (rw (← q) (sym (lookup-means b l.number j e).1)) in
          let k : (resource_at b j).matrix.present && not l.companion ≡ false = rw q (rw n at off) in
          rw (← q) (ap (λ (x : Resource). x.last) (get_or-set_same b.resources j (booked start end category l (resource_at b j)) no_resource (rw q h)) ∙ rw k refl))
          (λ (q : i ≡ j → ⊥). ap (λ (x : Resource). x.last) (get_or-set_other b.resources j i (booked start end category l (resource_at b j)) no_resource q))
          (same_or_not j i)

-- a booking makes a diary longer by one
longer : (t : ResourceTimeline) (start end u : ℕ) → (with_booking t start end u).len ≡ t.len + 1
unfolding diary
longer t start end u = omega (arith, length_inserted (λ b. b.start) (booking start end u) (bookings t), count t)

-- an entry for a resource on the board, with units in range
pub record BookableLine (b : Board) (l : Line) : Type 0 where
  pub on : on_board b l.number ≡ true
  pub some : 1 ≤ l.units
  pub few : l.units ≤ most_units

-- every diary has places for all its entries
abbrev pub Room : Board → List Line → Type 0
Room b ls = (n : ℕ) → on_board b n ≡ true → (diary_of b n).len + entries_on n ls ≤ 64

last-right : (r : Resource) (companion : Bool) (category : ℕ) → category ≤ 15 → board.last_right r.last ≡ true → board.last_right (last_after r companion category) ≡ true
unfolding last_after board.last_right
last-right r companion category l h = go (r.matrix.present && not companion)
  where
    go : (q : Bool) → board.last_right (cond q (Some category) r.last) ≡ true
    go true = le-leb category 15 l
    go false = h

module _ (start end category : ℕ) (w : Bookable start end category) where
  booked-right : (l : Line) (r : Resource) → 1 ≤ l.units → l.units ≤ most_units → board.resource_right r ≡ true → r.timeline.len < 64
      → board.resource_right (booked start end category l r) ≡ true
  unfolding booked board.resource_right
  booked-right l r some few h room =
      let k = resource-rules r h in
      let t = booked-keeps r.timeline (booking start end l.units) k.timeline room (record { order = w.order; range = w.range; some = some; few = few; sorted = omega arith }) in
      let h1 = and_split (leb r.number 15) _ h in
      let h2 = and_split (board.companions_right r.companions r.count) _ h1.1 in
      and-join _ _ h1.0 (and-join _ _ h2.0 (and-join _ _ t (and-join _ _ k.matrix (last-right r l.companion category w.category_range k.last))))

  module _ (b : Board) (long : length b.resources ≡ 16) (v : board.valid b ≡ true) (l : Line) (p : BookableLine b l) where
    abbrev after : Board
    after = changed b (lookup b l.number) (booked start end category l)

    -- a number keeps its place
    pub lookup-after : (n : ℕ) → lookup after n ≡ lookup b n
    lookup-after n =
        ap (λ (k : ℕ). lookup_to after k n) (step-len start end category b l (lookup b l.number))
        ∙ lookup-same b after b.len n (λ m i. step-number start end category b l m (omega (arith, (rules_of b v).few)))

    place : (i : ℕ) × (lookup b l.number ≡ at i) × (i < b.len)
    place = on-place b l.number p.on

    here : resource_at after place.0 ≡ booked start end category l (resource_at b place.0)
    unfolding changed
    here = rw place.1 (get_or-set_same b.resources place.0 (booked start end category l (resource_at b place.0)) no_resource (omega (arith, place.2, (rules_of b v).few)))

    -- the diary named has one booking more, the others are as they were
    diary-after : (n : ℕ) → on_board b n ≡ true → (diary_of after n).len ≡ (diary_of b n).len + cond (eqb l.number n) 1 0
    unfolding resource_in when booked
    diary-after n o =
        let q = on-place b n o in
        let e : lookup after n ≡ at q.0 = lookup-after n ∙ q.1 in
        ap (λ (f : Found). (resource_in after f).timeline.len) e ∙ go q.0 q.1 q.2 (eqb l.number n) refl ∙ sym (ap (λ (f : Found). (resource_in b f).timeline.len + cond (eqb l.number n) 1 0) q.1)
      where
        go : (j : ℕ) → lookup b n ≡ at j → j < b.len → (k : Bool) → eqb l.number n ≡ k → (resource_at after j).timeline.len ≡ (resource_at b j).timeline.len + cond k 1 0
        go j e m true h =
            let z : l.number ≡ n = eqb-true l.number n h in
            let y : place.0 ≡ j = ap when (sym place.1 ∙ ap (lookup b) z ∙ e) in
            rw (← y) (ap (λ (x : Resource). x.timeline.len) here ∙ longer (resource_at b place.0).timeline start end l.units)
        go j e m false h =
            let ne = eqb-false l.number n h in
            ap (λ (x : Resource). x.timeline.len) (step_same start end category b l j (λ z. ne (sym z ∙ (lookup-means b n j e).1))) ∙ omega arith

    pub after-keeps : (diary_of b l.number).len < 64 → board.valid after ≡ true
    unfolding changed resource_in booked
    after-keeps room =
        let i = place.0 in
        let r = resource_at b i in
        let t : r.timeline.len < 64 = subst (λ (f : Found). (resource_in b f).timeline.len < 64) place.1 room in
        subst (λ (f : Found). board.valid (changed b f (booked start end category l)) ≡ true) (sym place.1)
        (valid-with b i (booked start end category l r) long v place.2 (booked-right l r p.some p.few ((rules_of b v).right i place.2) t) refl)

    pub right-after : (k : Line) → BookableLine b k → BookableLine after k
    unfolding is_at
    right-after k r = record { on = ap is_at (lookup-after k.number) ∙ r.on; some = r.some; few = r.few }

    pub room_after : (ls : List Line) → Room b (l ∷ ls) → Room after ls
    unfolding entries_on is_at
    room_after ls f n o =
        let q : on_board b n ≡ true = ap is_at (sym (lookup-after n)) ∙ o in
        omega (arith, f n q, diary-after n q)

  pub all_keep : (ls : List Line) (b : Board) → length b.resources ≡ 16 → board.valid b ≡ true → Each (BookableLine b) ls → Room b ls
      → board.valid (book_all start end category ls b) ≡ true
  unfolding book_all entries_on
  all_keep [] b long v each_end f = v
  all_keep (l ∷ ls) b long v (each_on p ps) f =
      let e : eqb l.number l.number ≡ true = eq-eqb l.number l.number refl in
      let m : (diary_of b l.number).len + (cond (eqb l.number l.number) 1 0 + entries_on l.number ls) ≤ 64 = f l.number p.on in
      let g : (diary_of b l.number).len + (1 + entries_on l.number ls) ≤ 64 = rw e at m in
      all_keep ls (changed b (lookup b l.number) (booked start end category l)) (step-long start end category b l (lookup b l.number) ∙ long) (after-keeps b long v l p (omega arith))
      (each_weaken (BookableLine b) (BookableLine (changed b (lookup b l.number) (booked start end category l))) ls (right-after b long v l p) ps)
      (room_after b long v l p ls f)

-- the checks of the entries: on the board, units in range, room in the diaries
abbrev pub all_on : Board → List Line → Bool
all_on b ls = every (λ l. on_board b l.number) ls

abbrev pub all_metered : List Line → Bool
all_metered ls = every (λ l. leb 1 l.units && leb l.units most_units) ls

abbrev pub all_roomy : Board → List Line → Bool
all_roomy b ls = every (λ l. leb ((diary_of b l.number).len + entries_on l.number ls) 64) ls

-- the entries passed each check
pub passed : (b : Board) (ls : List Line) → all_on b ls ≡ true → all_metered ls ≡ true → Each (BookableLine b) ls
unfolding every
passed b [] e f = each_end
passed b (l ∷ ls) e f =
    let x = and_split (on_board b l.number) (all_on b ls) e in
    let y = and_split (leb 1 l.units && leb l.units most_units) (all_metered ls) f in
    let z = and_split (leb 1 l.units) (leb l.units most_units) y.0 in
    each_on (record { on = x.0; some = leb-true 1 l.units z.0; few = leb-true l.units most_units z.1 }) (passed b ls x.1 y.1)

pub named : (P : ℕ → Bool) (n : ℕ) (ls : List Line) → every (λ l. P l.number) ls ≡ true → 1 ≤ entries_on n ls → P n ≡ true
unfolding every entries_on
named P n [] e h = absurd (omega arith)
named P n (l ∷ ls) e h =
    let w = and_split (P l.number) (every (λ l. P l.number) ls) e in
    go (eqb l.number n) refl h w.0 (named P n ls w.1)
  where
    go : (q : Bool) → eqb l.number n ≡ q → 1 ≤ cond q 1 0 + entries_on n ls → P l.number ≡ true → (1 ≤ entries_on n ls → P n ≡ true) → P n ≡ true
    go true f g p rest = ap P (sym (eqb-true l.number n f)) ∙ p
    go false f g p rest = rest (omega arith)

pub room-passed : (b : Board) (ls : List Line) → board.valid b ≡ true → all_roomy b ls ≡ true → Room b ls
room-passed b ls v e n o =
    ⊎_elim
    (λ (h : 0 < entries_on n ls). leb-true ((diary_of b n).len + entries_on n ls) 64 (named (λ m. leb ((diary_of b m).len + entries_on m ls) 64) n ls e (omega arith)))
    (λ (h : entries_on n ls ≤ 0). omega (arith, (timeline-rules.rules_of (diary_of b n) (on-valid b v n o)).room))
    (lt-or-ge 0 (entries_on n ls))

-- lines that are not refused can be booked
pub all-fine : (b : Board) (ls : List Line) (start end category : ℕ) → board.valid b ≡ true → lines_refusal b ls start end category ≡ 0
    → Bookable start end category × Each (BookableLine b) ls × Room b ls
unfolding lines_refusal
all-fine b ls start end category v e =
    let x0 = unrefused (not (all_on b ls) || ltb 15 category) 4 _ e in
    let x1 = unrefused (ltb last_instant start || ltb last_instant end) 0 _ x0.1 in
    let x2 = unrefused (leb end start) 1 _ x1.1 in
    let x3 = unrefused (not (all_metered ls)) 2 _ x2.1 in
    let x4 = unrefused (not (all_roomy b ls)) 3 0 x3.1 in (
      record {
        order = leb-false end start x2.0;
        range = ltb-false last_instant end (or_right (ltb last_instant start) (ltb last_instant end) x1.0);
        category_range = ltb-false 15 category (or_right (not (all_on b ls)) (ltb 15 category) x0.0);
      },
      passed b ls (not-false (all_on b ls) (or_left (not (all_on b ls)) (ltb 15 category) x0.0)) (not-false (all_metered ls) x3.0),
      room-passed b ls v (not-false (all_roomy b ls) x4.0),
    )
