-- What the steps of reading a request rely on.
use Rattle.std.specs.Prelude.{ℕ, ◌/◌, ◌≤◌, ◌<◌, List, length}
use Rattle.base_key.specs.Bytes.{Bytes}

-- `count` places, and a start in the bytes
pub record ArgumentsIn (input table : List ℕ) (count from : ℕ) : Type 0 where
  pub places : count ≤ length table / 2
  pub inside : from ≤ length input

-- the first line of an array: its text begins with `*`
pub record ArrayLine (input : Bytes) (len used : ℕ) : Type 0 where
  pub some_byte : 1 ≤ len
  pub text : len < used
  pub inside : used ≤ length input
