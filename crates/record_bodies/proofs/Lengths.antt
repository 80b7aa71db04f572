-- The length of a record's body, by its kind.
use Rattle.std.proofs.Common.{◌≡◌, ℕ, ◌+◌, ◌-◌, ◌≤◌, ◌<◌, List, length, get_or, take, drop, refl, sym, ◌∙◌, arith, length-take, length-drop, get_or-take, get_or-drop, Option, None, Some, MatchOption}
use mathlib.Core.Logic.{⊎_elim}
use borrow.Author.Tests.{lt-ltb, le-ltb, lt-leb, ne_eqb}
use Rattle.cells.specs.Laws.Basics.{lt-or-ge}
use Rattle.record_bodies.specs.Bodies.{byte, diary_len, fixed_len, len_of, whole, body_len}
use Rattle.record_bodies.specs.Kinds.{change_number, entry_number, part_number, BodyOf}
use Rattle.record_bodies.specs.declared.kinds.Change.{Change}
use Rattle.record_bodies.specs.declared.kinds.Change.TheVariants.{Capacity, Window, Block, Booking}
use Rattle.record_bodies.specs.declared.kinds.Entry.{Entry}
use Rattle.record_bodies.specs.declared.kinds.Entry.TheVariants.{Matrix, Transition, Initial, Transport}
use Rattle.record_bodies.specs.declared.kinds.Part.{Part}
use Rattle.record_bodies.specs.declared.kinds.Part.TheVariants.{Requirement, Speed, Durations}

-- no number but 1 to 6 is a diary's kind
pub no_diary : (k : ℕ) → (1 ≤ k → k ≤ 4 → ⊥) → (k ≡ 5 → ⊥) → (k ≡ 6 → ⊥) → diary_len k ≡ 0
unfolding diary_len
no_diary k h e f =
    let n : (m : ℕ) → 1 ≤ m → m ≤ 4 → k ≡ m → ⊥ = λ m p q e. h (omega arith) (omega arith) in
    simp (ne_eqb k 1 (n 1 (omega arith) (omega arith)), ne_eqb k 2 (n 2 (omega arith) (omega arith)), ne_eqb k 3 (n 3 (omega arith) (omega arith)), ne_eqb k 4 (n 4 (omega arith) (omega arith)), ne_eqb k 5 e, ne_eqb k 6 f)

-- and no number but 1 to 4 and 16 to 24 is a board's
pub no_board : (k : ℕ) (bs : List ℕ) (i : ℕ) → (1 ≤ k → k ≤ 4 → ⊥) → (16 ≤ k → k ≤ 24 → ⊥) → len_of k bs i ≡ 0
unfolding len_of fixed_len diary_len
no_board k bs i h l =
    ⊎_elim
    (λ (a : k < 5).
    ⊎_elim
    (λ (z : k < 1).
    let e : k ≡ 0 = omega arith in
    rw e refl)
    (λ (z : 1 ≤ k). absurd (h z (omega arith)))
    (lt-or-ge k 1))
    (λ (a : 5 ≤ k).
    let n : (m : ℕ) → 16 ≤ m → m ≤ 24 → k ≡ m → ⊥ = λ m p q e. l (omega arith) (omega arith) in
    simp (lt-leb k 4 a, ne_eqb k 16 (n 16 (omega arith) (omega arith)), ne_eqb k 17 (n 17 (omega arith) (omega arith)), ne_eqb k 18 (n 18 (omega arith) (omega arith)), ne_eqb k 19 (n 19 (omega arith) (omega arith)), ne_eqb k 20 (n 20 (omega arith) (omega arith)), ne_eqb k 21 (n 21 (omega arith) (omega arith)), ne_eqb k 22 (n 22 (omega arith) (omega arith)), ne_eqb k 23 (n 23 (omega arith) (omega arith)), ne_eqb k 24 (n 24 (omega arith) (omega arith))))
    (lt-or-ge k 5)

-- a kind without a body has none anywhere
pub no-body : (k : ℕ) → ((bs : List ℕ) (i : ℕ) → len_of k bs i ≡ 0) → (bs : List ℕ) (i n : ℕ) → body_len k bs i n ≡ 0
unfolding body_len whole
no-body k z bs i n = rw (z bs i, le-ltb (n - i) 0 (omega arith)) refl

-- the length that is read of a body
pub body-read : (k : ℕ) (bs : List ℕ) (i n len : ℕ) (r : Option ℕ) → i ≤ n → len_of k bs i ≡ len → 0 < len
    → MatchOption r (n - i < len) (λ m. (m ≡ len) × (len ≤ n - i)) → BodyOf k bs i n r
unfolding body_len whole
body-read k bs i n len None l e p h = rw (e, lt-ltb (n - i) len h) refl
body-read k bs i n len (Some m) l e p h =
    record { known = h.0 ∙ sym e; some = omega arith; fits = omega arith; whole = rw (e, le-ltb (n - i) len h.1) h.0 }

-- a body of kind 16 that is cut before its count
pub cut-short : (bs : List ℕ) (i n : ℕ) → i ≤ n → n ≤ length bs → length (take (n - i) (drop i bs)) ≤ 10 → body_len 16 bs i n ≡ 0
unfolding body_len whole len_of
cut-short bs i n h l s =
    let r : n - i < 11 + byte bs (i + 10) = omega (arith, length-take (n - i) (drop i bs), length-drop i bs) in
    rw (lt-ltb (n - i) (11 + byte bs (i + 10)) r) refl

-- the count in a body of kind 16
pub counted : (bs : List ℕ) (i n x : ℕ) → 10 < length (take (n - i) (drop i bs)) → x ≡ get_or (take (n - i) (drop i bs)) 10 0 → x ≡ byte bs (i + 10)
counted bs i n x h e = e ∙ get_or-take (n - i) (drop i bs) 10 0 (omega (arith, length-take (n - i) (drop i bs))) ∙ get_or-drop i bs 10 0

pub change-len : (c : Change) (bs : List ℕ) (i : ℕ) → len_of (change_number c) bs i ≡ diary_len (change_number c)
unfolding len_of fixed_len diary_len
change-len Capacity bs i = refl
change-len Window bs i = refl
change-len Block bs i = refl
change-len Booking bs i = refl

pub entry-len : (e : Entry) (bs : List ℕ) (i : ℕ) → len_of (entry_number e) bs i ≡ fixed_len (entry_number e)
unfolding len_of fixed_len
entry-len Matrix bs i = refl
entry-len Transition bs i = refl
entry-len Initial bs i = refl
entry-len Transport bs i = refl

pub part-len : (p : Part) (bs : List ℕ) (i : ℕ) → len_of (part_number p) bs i ≡ fixed_len (part_number p)
unfolding len_of fixed_len
part-len Requirement bs i = refl
part-len Speed bs i = refl
part-len Durations bs i = refl
