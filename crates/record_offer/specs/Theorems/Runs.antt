-- Small runs on the definitions.
use Rattle.std.specs.Prelude.{◌≡◌, refl, [], ◌∷◌}
use Rattle.record_bodies.specs.Bodies.{fixed_len, len_of, whole, body_len}
use Rattle.record_offer.specs.Offers.{offer_len}

-- bodies of 8 and 20 bytes, whole and cut; one as elsewhere; kinds 6, 27 and 40 are unknown
pub lengths :
    (offer_len 25 [] 0 8 ∷ offer_len 25 [] 0 7 ∷ offer_len 26 [] 5 25 ∷ offer_len 26 [] 5 24
    ∷ offer_len 24 [] 0 25 ∷ offer_len 6 [] 0 99 ∷ offer_len 27 [] 0 99 ∷ offer_len 40 [] 0 99 ∷ [])
    ≡ 8 ∷ 0 ∷ 20 ∷ 0 ∷ 25 ∷ 0 ∷ 0 ∷ 0 ∷ []
unfolding fixed_len len_of whole body_len offer_len
lengths = refl
