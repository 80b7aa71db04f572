-- 'Durations, setups, transport': the setup on a resource, by its matrix or, without one, the order's own.
use Rattle.std.specs.Prelude.{ℕ, ◌+◌, ◌*◌, cond, get_or, eqb, ℤ, pos, negsuc, Option, Some, None}
use Rattle.board.specs.declared.TransitionMatrix.{TransitionMatrix}
use Rattle.board.specs.declared.Resource.{Resource}

-- an entry -1 is absent, and another value then stands for it
unfoldable pub entry_or : ℤ → ℕ → ℕ
entry_or (pos ms) other = ms
entry_or (negsuc k) other = other

-- the pair (last, this), or the first entry where nothing was last; absent, a pair of equal categories gives 0, another pair the
-- matrix's default, a first entry the matrix's initial
unfoldable pub matrix_setup : TransitionMatrix → Option ℕ → ℕ → ℕ
matrix_setup m None this = entry_or (get_or m.initials this (pos 0)) (entry_or m.initial 0)
matrix_setup m (Some last) this =
    entry_or (get_or m.transitions (16 * last + this) (pos 0)) (cond (eqb last this) 0 (entry_or m.default 0))

-- a matrix resource ignores the order's setup
unfoldable pub setup_ms : TransitionMatrix → Option ℕ → ℕ → ℕ → ℕ
setup_ms m last this own = cond m.present (matrix_setup m last this) own

abbrev pub setup_on : Resource → ℕ → ℕ → ℕ
setup_on r category own = setup_ms r.matrix r.last category own
