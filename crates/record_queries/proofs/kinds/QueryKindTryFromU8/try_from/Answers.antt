-- `record_queries::kinds::QueryKind::try_from` meets its contract: a kind that is none of a board's has no body.
use Rattle.std.proofs.Common.{◌≡◌, ℕ, List, arith, Result, Ok, Err, IsErr}
use mathlib.Core.Bool.{false≢true}
use borrow.Author.Tests.{ne_eqb}
use Rattle.record_bodies.specs.Bodies.{len_of}
use Rattle.record_bodies.specs.declared.kinds.UnknownKind.{UnknownKind}
use Rattle.record_bodies.proofs.Lengths.{no-body}
use Rattle.record_queries.specs.declared.kinds.QueryKind.{QueryKind}
use Rattle.record_queries.specs.Asks.{ask_len, run_len}
use Rattle.record_queries.specs.Kinds.{QueryKindOf}
use Rattle.record_queries.proofs.kinds.QueryKindTryFromU8.try_from.Goals as goal

unknown : (k : ℕ) (r : Result QueryKind UnknownKind) → IsErr r → (k ≡ 40 → ⊥) → (k ≡ 41 → ⊥) → (k ≡ 42 → ⊥) → (k ≡ 43 → ⊥) → ((bs : List ℕ) (i : ℕ) → len_of k bs i ≡ 0) → QueryKindOf k r
unfolding run_len ask_len
unknown k (Ok x) e a b d f z = absurd (false≢true e)
unknown k (Err x) e a b d f z = λ bs i n. rw (ne_eqb k 40 a, ne_eqb k 41 b, ne_eqb k 42 d, ne_eqb k 43 f) (no-body k z bs i n)

pub returns-in_err-try_from-in_default : goal.returns-in_err-try_from-in_default
returns-in_err-try_from-in_default c =
    unknown c.args.kind c.from_residual.result c.from_residual.ensures.0 (λ e. omega arith) (λ e. omega arith) (λ e. omega arith) (λ e. omega arith) c.in_err-try_from-in_default.ensures
