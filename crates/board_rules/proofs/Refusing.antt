-- Where a board has no places, `ok_or` gives the refusal.
use Rattle.std.specs.Prelude.{◌≡◌, Option, Some, None, Err, MatchOption}
use Rattle.std.specs.Option.{ok_or}

pub none_refused : {A E P : Type 0} (Q : A → Type 0) (o : Option A) (e r : E) → MatchOption o P Q → Err r ≡ ok_or o e → (r ≡ e) × P
none_refused Q None e r p h = (cc, p)
none_refused Q (Some x) e r p h = absurd (cc)
