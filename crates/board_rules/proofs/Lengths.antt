-- How many bookings the diaries of a board have.
use mathlib.Core.Path.{◌≡◌}
use mathlib.Core.Bool.{true}
use mathlib.Core.Logic.{⊎_elim}
use mathlib.Core.List.{List}
use Prim.Native.Nat.{ℕ, ◌≤◌, ◌<◌}
use native.Mathlib.Omega.{arith}
use lib.ListN.{get_or}
use lib.Dec.{eqb}
use borrow.Author.Tests.{eqb-true}
use Rattle.cells.specs.Laws.Basics.{and_split, lt-or-ge}
use Rattle.timeline.specs.Laws.Rules as timeline
use Rattle.board.specs.declared.Board.{Board}
use Rattle.board.specs.declared.Resource.{Resource}
use Rattle.board.specs.Resources.{resource_at}
use Rattle.board.specs.Valid.{valid, companions_right, resource_blank, diary_blank}
use Rattle.board.specs.Laws.Facts.{rules_of}
use Rattle.board.specs.Theorems.Meaning.{resource-of}

blank-len : (r : Resource) → resource_blank r ≡ true → r.timeline.len ≡ 0
unfolding resource_blank diary_blank
blank-len r e =
    let e1 = (and_split (eqb r.number 0) _ e).1 in
    let e2 = (and_split (eqb r.kind 0) _ e1).1 in
    let e3 = (and_split (eqb r.skills 0) _ e2).1 in
    let e4 = (and_split (eqb r.count 0) _ e3).1 in
    let e5 = (and_split (companions_right r.companions 0) _ e4).1 in
    let d = (and_split (diary_blank r.timeline) _ e5).0 in
    let d1 = (and_split (eqb r.timeline.capacity 0) _ d).1 in
    eqb-true r.timeline.len 0 (and_split (eqb r.timeline.len 0) _ d1).0

-- each diary of a board that keeps the rules, and each cell past its length
pub few-bookings : (b : Board) → valid b ≡ true → (i : ℕ) → i < 16 → (resource_at b i).timeline.len ≤ 64
few-bookings b v i l =
    ⊎_elim
    (λ (m : i < b.len). (timeline.rules_of (resource_at b i).timeline (resource-of b v i m).timeline).room)
    (λ (m : b.len ≤ i). omega (arith, blank-len (resource_at b i) ((rules_of b v).blank i m l)))
    (lt-or-ge i b.len)

-- the diaries so far are read
abbrev pub Read : Board → ℕ → List ℕ → Type 0
Read b i lens = (k : ℕ) → k < i → get_or lens k 0 ≡ (resource_at b k).timeline.len
