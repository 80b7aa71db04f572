-- `record_offer::kinds::OfferKind::try_from` meets its contract: a kind that is none of a board's has no body.
use Rattle.std.proofs.Common.{◌≡◌, ℕ, List, arith, Result, Ok, Err, IsErr}
use mathlib.Core.Bool.{false≢true}
use borrow.Author.Tests.{ne_eqb}
use Rattle.record_bodies.specs.Bodies.{len_of}
use Rattle.record_bodies.specs.declared.kinds.UnknownKind.{UnknownKind}
use Rattle.record_bodies.proofs.Lengths.{no-body}
use Rattle.record_offer.specs.declared.kinds.OfferKind.{OfferKind}
use Rattle.record_offer.specs.Offers.{offer_len}
use Rattle.record_offer.specs.Kinds.{OfferKindOf}
use Rattle.record_offer.proofs.kinds.OfferKindTryFromU8.try_from.Goals as goal

unknown : (k : ℕ) (r : Result OfferKind UnknownKind) → IsErr r → (k ≡ 25 → ⊥) → (k ≡ 26 → ⊥) → ((bs : List ℕ) (i : ℕ) → len_of k bs i ≡ 0) → OfferKindOf k r
unfolding offer_len
unknown k (Ok x) e a b z = absurd (false≢true e)
unknown k (Err x) e a b z = λ bs i n. rw (ne_eqb k 25 a, ne_eqb k 26 b) (no-body k z bs i n)

pub returns-in_err-try_from-in_default : goal.returns-in_err-try_from-in_default
returns-in_err-try_from-in_default c =
    unknown c.args.kind c.from_residual.result c.from_residual.ensures.0 (λ e. omega arith) (λ e. omega arith) c.in_err-try_from-in_default.ensures
