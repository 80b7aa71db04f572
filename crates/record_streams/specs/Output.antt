-- A buffer of output of 65,536 bytes.
use Rattle.std.specs.Prelude.{ℕ, ◌-◌, cond, ltb}

-- how many of the `used` bytes wait once there is room: none where they had to be written, else all
unfoldable pub waiting : ℕ → ℕ → ℕ
waiting used room = cond (ltb (65536 - used) room) 0 used
