-- Lists of numbers in their order.
-- Source: own.
use Rattle.std.specs.Prelude.{ℕ, ℤ, pos, List, ◌<◌, ◌≤◌, ◌<ℤ◌, ◌≤ℤ◌, length, slice_index_or}

-- no number is above a later one
abbrev pub IsOrdered : List ℤ → Type 0
IsOrdered xs = (i j : ℕ) → i < j → j < length xs → slice_index_or xs i (pos 0) ≤ℤ slice_index_or xs j (pos 0)

-- the first so many are not above a number, and all others are
pub record ArePassed (xs : List ℤ) (n : ℤ) (count : ℕ) : Type 0 where
  pub within : count ≤ length xs
  pub passed : (k : ℕ) → k < count → slice_index_or xs k (pos 0) ≤ℤ n
  pub ahead : (k : ℕ) → count ≤ k → k < length xs → n <ℤ slice_index_or xs k (pos 0)
