-- The length of a record's body, by its kind.
use Rattle.std.specs.Prelude.{ℕ, ◌+◌, ◌-◌, cond, ◌||◌, List, get_or, leb, ltb, eqb}

-- the byte at index i
abbrev pub byte : List ℕ → ℕ → ℕ
byte bs i = get_or bs i 0

-- a diary's kinds (01, 'Program slot'). 1: capacity (4 bytes); 2 window, 3 block: start, end (8 each); 4 booking: start, end, units (4);
-- 5 fit, 6 resumable: from, span, units; 0 for any other kind
unfoldable pub diary_len : ℕ → ℕ
diary_len kind =
    cond (eqb kind 1) 4
    (cond (eqb kind 2 || eqb kind 3) 16
    (cond (eqb kind 4 || (eqb kind 5 || eqb kind 6)) 20 0))

-- 1 to 4 are a diary's; 17 to 24 by their tables in docs/RECORDS.md; 0 for an unknown kind
unfoldable pub fixed_len : ℕ → ℕ
fixed_len kind =
    cond (leb kind 4) (diary_len kind)
    (cond (eqb kind 17) 17
    (cond (eqb kind 18) 11
    (cond (eqb kind 19 || eqb kind 20) 10
    (cond (eqb kind 21) 38
    (cond (eqb kind 22) 19
    (cond (eqb kind 23) 9
    (cond (eqb kind 24) 25 0)))))))

-- kind 16 ends with a count, at index 10 of its body, and that many numbers
unfoldable pub len_of : ℕ → List ℕ → ℕ → ℕ
len_of kind bs i = cond (eqb kind 16) (11 + byte bs (i + 10)) (fixed_len kind)

unfoldable pub whole : ℕ → ℕ → ℕ
whole rest len = cond (ltb rest len) 0 len

-- the body that begins at index i, the input ending at index n: 0 for an unknown kind or a cut body
unfoldable pub body_len : ℕ → List ℕ → ℕ → ℕ → ℕ
body_len kind bs i n = whole (n - i) (len_of kind bs i)
