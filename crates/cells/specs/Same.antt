-- When a test says that two things are the same.
use Rattle.std.specs.Prelude.{◌≡◌, Bool, true}

-- r is true where x and y are the same, and only there
pub record Compares {X : Type 0} (r : Bool) (x y : X) : Type 0 where
  pub yes : r ≡ true → x ≡ y
  pub no : x ≡ y → r ≡ true
