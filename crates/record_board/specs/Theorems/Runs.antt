-- Small runs on the definitions.
use Rattle.std.specs.Prelude.{◌≡◌, refl, [], ◌∷◌, pos, negsuc}
use Rattle.record_bodies.specs.Bodies.{fixed_len, len_of, whole, body_len}
use Rattle.record_board.specs.Records.{signed}

-- -1, the least and the greatest signed number
signs : (signed 18446744073709551615 ∷ signed 9223372036854775808 ∷ signed 9223372036854775807 ∷ []) ≡ negsuc 0 ∷ negsuc 9223372036854775807 ∷ pos 9223372036854775807 ∷ []
unfolding signed
signs = refl

-- a resource with two companions: 13 bytes whole, 12 cut; kinds 5 and 25 are unknown
pub lengths :
    (body_len 16 (9 ∷ 0 ∷ 0 ∷ 0 ∷ 0 ∷ 0 ∷ 0 ∷ 0 ∷ 0 ∷ 0 ∷ 2 ∷ 3 ∷ 4 ∷ []) 0 13
    ∷ body_len 16 (9 ∷ 0 ∷ 0 ∷ 0 ∷ 0 ∷ 0 ∷ 0 ∷ 0 ∷ 0 ∷ 0 ∷ 2 ∷ 3 ∷ 4 ∷ []) 0 12
    ∷ body_len 21 [] 0 38 ∷ body_len 21 [] 0 37 ∷ body_len 5 [] 0 100 ∷ body_len 25 [] 0 100 ∷ [])
    ≡ 13 ∷ 0 ∷ 38 ∷ 0 ∷ 0 ∷ 0 ∷ []
unfolding fixed_len len_of whole body_len
lengths = refl
