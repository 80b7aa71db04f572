-- The kinds of `offer` by their numbers, and what reading a kind and the length of its body answers.
use Rattle.std.specs.Prelude.{◌≡◌, ℕ, ◌+◌, ◌≤◌, ◌<◌, List, Option, MatchOption, Result, MatchResult}
use Rattle.record_bodies.specs.declared.kinds.UnknownKind.{UnknownKind}
use Rattle.record_bodies.specs.Bodies.{len_of}
use Rattle.record_bodies.specs.Kinds.{board_number}
use Rattle.record_offer.specs.declared.kinds.OfferKind.{OfferKind}
use Rattle.record_offer.specs.declared.kinds.OfferKind.TheVariants.{Board, Place, Commit}
use Rattle.record_offer.specs.Offers.{offer_len}

abbrev pub offer_number : OfferKind → ℕ
offer_number (Board k) = board_number k
offer_number Place = 25
offer_number Commit = 26

-- how many bytes a body at index i needs
abbrev pub needed : OfferKind → List ℕ → ℕ → ℕ
needed (Board k) bs i = len_of (board_number k) bs i
needed Place bs i = 8
needed Commit bs i = 20

-- the kind of this number, or an error where no body is known for it
abbrev pub OfferKindOf : ℕ → Result OfferKind UnknownKind → Type 0
OfferKindOf k r = MatchResult r (λ kind. offer_number kind ≡ k) (λ _. (bs : List ℕ) (i n : ℕ) → offer_len k bs i n ≡ 0)

-- a body of this length lies between the indices i and n
pub record Body (kind : OfferKind) (bs : List ℕ) (i n len : ℕ) : Type 0 where
  pub known : len ≡ needed kind bs i
  pub some : 0 < len
  pub fits : i + len ≤ n
  pub whole : len ≡ offer_len (offer_number kind) bs i n

-- the length of the body, or nothing where it is cut
abbrev pub BodyOf : OfferKind → List ℕ → ℕ → ℕ → Option ℕ → Type 0
BodyOf kind bs i n r = MatchOption r (offer_len (offer_number kind) bs i n ≡ 0) (Body kind bs i n)
