-- The kinds of records by their numbers (docs/RECORDS.md), and what reading a kind and the length of its body answers.
use Rattle.std.specs.Prelude.{◌≡◌, ℕ, ◌+◌, ◌≤◌, ◌<◌, List, Option, MatchOption, Result, MatchResult}
use Rattle.record_bodies.specs.declared.kinds.UnknownKind.{UnknownKind}
use Rattle.record_bodies.specs.declared.kinds.Change.{Change}
use Rattle.record_bodies.specs.declared.kinds.Change.TheVariants.{Capacity, Window, Block, Booking}
use Rattle.record_bodies.specs.declared.kinds.DiaryKind.{DiaryKind}
use Rattle.record_bodies.specs.declared.kinds.DiaryKind.TheVariants as diary
use Rattle.record_bodies.specs.declared.kinds.Entry.{Entry}
use Rattle.record_bodies.specs.declared.kinds.Entry.TheVariants.{Matrix, Transition, Initial, Transport}
use Rattle.record_bodies.specs.declared.kinds.Part.{Part}
use Rattle.record_bodies.specs.declared.kinds.Part.TheVariants.{Requirement, Speed, Durations}
use Rattle.record_bodies.specs.declared.kinds.BoardKind.{BoardKind}
use Rattle.record_bodies.specs.declared.kinds.BoardKind.TheVariants as board
use Rattle.record_bodies.specs.Bodies.{diary_len, len_of, body_len}

abbrev pub change_number : Change → ℕ
change_number Capacity = 1
change_number Window = 2
change_number Block = 3
change_number Booking = 4

abbrev pub diary_number : DiaryKind → ℕ
diary_number (diary.Change c) = change_number c
diary_number diary.Fit = 5
diary_number diary.Resumable = 6

abbrev pub entry_number : Entry → ℕ
entry_number Matrix = 17
entry_number Transition = 18
entry_number Initial = 19
entry_number Transport = 20

abbrev pub part_number : Part → ℕ
part_number Requirement = 22
part_number Speed = 23
part_number Durations = 24

abbrev pub board_number : BoardKind → ℕ
board_number (board.Change c) = change_number c
board_number board.Resource = 16
board_number (board.Entry e) = entry_number e
board_number board.Order = 21
board_number (board.Part p) = part_number p

-- the change of this number, or an error where it is none of 1 to 4
abbrev pub ChangeOf : ℕ → Result Change UnknownKind → Type 0
ChangeOf n r = MatchResult r (λ c. change_number c ≡ n) (λ _. 1 ≤ n → n ≤ 4 → ⊥)

-- the kind of this number, or an error where no body is known for it
abbrev pub DiaryKindOf : ℕ → Result DiaryKind UnknownKind → Type 0
DiaryKindOf n r = MatchResult r (λ k. diary_number k ≡ n) (λ _. diary_len n ≡ 0)

abbrev pub BoardKindOf : ℕ → Result BoardKind UnknownKind → Type 0
BoardKindOf n r = MatchResult r (λ k. board_number k ≡ n) (λ _. (bs : List ℕ) (i : ℕ) → len_of n bs i ≡ 0)

-- a body of this length lies between the indices i and n
pub record Body (kind : ℕ) (bs : List ℕ) (i n len : ℕ) : Type 0 where
  pub known : len ≡ len_of kind bs i
  pub some : 0 < len
  pub fits : i + len ≤ n
  pub whole : len ≡ body_len kind bs i n

-- the length of the body, or nothing where it is cut
abbrev pub BodyOf : ℕ → List ℕ → ℕ → ℕ → Option ℕ → Type 0
BodyOf kind bs i n r = MatchOption r (body_len kind bs i n ≡ 0) (Body kind bs i n)
