-- A number that bytes write, the highest first. Assumes nothing.
use Rattle.std.specs.Prelude.{◌≡◌, ℕ, List}
use Rattle.std.specs.Int.Digits.{number_from_digits, AllBelowBase}

-- r is the number of these bytes, and each is below 256
pub record Word (bytes : List ℕ) (r : ℕ) : Type 0 where
  pub value : r ≡ number_from_digits 256 bytes
  pub small : AllBelowBase 256 bytes
