-- The numbers below a count.
use Rattle.std.specs.Prelude.{◌≡◌, ℕ, ◌<◌, List, length, slice_index}

-- the numbers below a count, in order
pub record AreAllNumbers (count : ℕ) (all : List ℕ) : Type 0 where
  pub long : length all ≡ count
  pub each : (i : ℕ) → i < count → slice_index all i ≡ i
