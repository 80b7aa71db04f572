-- The kinds of `run_board` by their numbers, and what reading a kind and the length of its body answers.
use Rattle.std.specs.Prelude.{◌≡◌, ℕ, ◌+◌, ◌≤◌, ◌<◌, List, Option, MatchOption, Result, MatchResult}
use Rattle.record_bodies.specs.declared.kinds.UnknownKind.{UnknownKind}
use Rattle.record_bodies.specs.Bodies.{len_of}
use Rattle.record_bodies.specs.Kinds.{board_number}
use Rattle.record_queries.specs.declared.kinds.Ask.{Ask}
use Rattle.record_queries.specs.declared.kinds.Ask.TheVariants.{Durations, Setup, Transport, Serving}
use Rattle.record_queries.specs.declared.kinds.QueryKind.{QueryKind}
use Rattle.record_queries.specs.declared.kinds.QueryKind.TheVariants as query
use Rattle.record_queries.specs.Asks.{ask_len, run_len}

abbrev pub ask_number : Ask → ℕ
ask_number Durations = 40
ask_number Setup = 41
ask_number Transport = 42
ask_number Serving = 43

abbrev pub query_number : QueryKind → ℕ
query_number (query.Board k) = board_number k
query_number (query.Ask a) = ask_number a

-- how many bytes a body at index i needs
abbrev pub needed : QueryKind → List ℕ → ℕ → ℕ
needed (query.Board k) bs i = len_of (board_number k) bs i
needed (query.Ask a) bs i = ask_len (ask_number a)

-- the kind of this number, or an error where no body is known for it
abbrev pub QueryKindOf : ℕ → Result QueryKind UnknownKind → Type 0
QueryKindOf k r = MatchResult r (λ kind. query_number kind ≡ k) (λ _. (bs : List ℕ) (i n : ℕ) → run_len k bs i n ≡ 0)

-- a body of this length lies between the indices i and n
pub record Body (kind : QueryKind) (bs : List ℕ) (i n len : ℕ) : Type 0 where
  pub known : len ≡ needed kind bs i
  pub some : 0 < len
  pub fits : i + len ≤ n
  pub whole : len ≡ run_len (query_number kind) bs i n

-- the length of the body, or nothing where it is cut
abbrev pub BodyOf : QueryKind → List ℕ → ℕ → ℕ → Option ℕ → Type 0
BodyOf kind bs i n r = MatchOption r (run_len (query_number kind) bs i n ≡ 0) (Body kind bs i n)
