-- A size without a sign, as the code hands it on.
use Rattle.std.specs.Prelude.{◌≡◌, ℕ, ◌≤◌}
use Rattle.std.specs.Prelude.{Option, Some}

-- a length that is not 0, or none
pub record Positive (l : Option ℕ) : Type 0 where
  pub positive : (n : ℕ) → l ≡ Some n → 1 ≤ n
