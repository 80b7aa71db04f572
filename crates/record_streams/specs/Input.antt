-- A buffer of input: what is unread, and what reading on does to it.
use Rattle.std.specs.Prelude.{◌≡◌, true, false, List, ℕ, ◌+◌, ◌-◌, ◌≤◌, take, drop}
use Rattle.record_streams.specs.declared.input.Input.{Input}

-- the bytes that are unread
abbrev pub unread : Input → List ℕ → List ℕ
unread s buf = take (s.len - s.at) (drop s.at buf)

-- they lie in a buffer of 65,536 bytes
pub record Lies (s : Input) : Type 0 where
  pub low : s.at ≤ s.len
  pub high : s.len ≤ 65536

-- r and after are s and its buffer after reading on: what was unread comes first of what is unread now; while the input lives a longest
-- record is there; and once it has ended nothing changes
pub record Supplied (s : Input) (before : List ℕ) (longest : ℕ) (r : Input) (after : List ℕ) : Type 0 where
  pub lies : Lies r
  pub long : r.live ≡ true → r.at + longest ≤ r.len
  pub more : s.len - s.at ≤ r.len - r.at
  pub first : take (s.len - s.at) (drop r.at after) ≡ unread s before
  pub over : s.live ≡ false → (r ≡ s) × (after ≡ before)
