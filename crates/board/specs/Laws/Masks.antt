-- The greatest transport, one number after another.
use Rattle.std.specs.Prelude.{Bool, true, false, cond, ◌&&◌, List, [], ◌∷◌, ◌++◌, map, ◌≡◌, refl, ℕ, suc, ◌+◌, ◌*◌, max, get_or}
use Rattle.std.proofs.Common.{append-nil, ◌∙◌, add-one, arith}
use Rattle.calendar.specs.Search.{greatest_of}
use Rattle.calendar.specs.Sets.{bit}
use Rattle.calendar.specs.Laws.Searching.{greatest-snoc}
use Rattle.board.specs.Transport.{places_from, greatest_transport}
use Rattle.board.specs.Places.{anywhere}

pub greatest-none : (on : ℕ → Bool) (transport : List ℕ) (origins to : ℕ) → greatest_transport on transport origins to 0 ≡ 0
unfolding greatest_transport places_from greatest_of
greatest-none on transport origins to = refl

-- one number more: its transport counts where it is come from and passes
pub greatest-next : (on : ℕ → Bool) (transport : List ℕ) (origins to n : ℕ)
    → greatest_transport on transport origins to (suc n) ≡ max (greatest_transport on transport origins to n) (cond (bit origins n && on n) (get_or transport (16 * n + to) 0) 0)
unfolding greatest_transport places_from
greatest-next on transport origins to n = go (bit origins n && on n)
  where
    f : ℕ → ℕ
    f from = get_or transport (16 * from + to) 0

    so : List ℕ
    so = places_from on origins n

    go : (q : Bool) → greatest_of (map f (so ++ cond q (n ∷ []) [])) ≡ max (greatest_of (map f so)) (cond q (f n) 0)
    go true = greatest-snoc f so n
    go false = rw (append-nil so) (omega arith)

module _ (transport : List ℕ) (origins to n : ℕ) where
  pub greatest-hit : bit origins n ≡ true
      → greatest_transport anywhere transport origins to (n + 1) ≡ max (greatest_transport anywhere transport origins to n) (get_or transport (16 * n + to) 0)
  unfolding anywhere
  greatest-hit e = rw (add-one n) (greatest-next anywhere transport origins to n ∙ rw e refl)

  pub greatest-miss : bit origins n ≡ false → greatest_transport anywhere transport origins to (n + 1) ≡ greatest_transport anywhere transport origins to n
  unfolding anywhere
  greatest-miss e = rw (add-one n) (greatest-next anywhere transport origins to n ∙ rw e (omega arith))
