-- 01, 'Placing': from when an order may start.
use Rattle.std.specs.Prelude.{ℕ, max, Option, Some, None}

-- the later of ready and release (release may be absent)
unfoldable pub ready_of : Option ℕ → ℕ → ℕ
ready_of None ready = ready
ready_of (Some release) ready = max ready release
