-- Numbers, each once, in the order in which they came.
-- Source: own.
use Rattle.std.specs.Prelude.{◌≡◌, ◌⊎◌, ℕ, List, [], ◌∷◌, ◌++◌, length, get_or, Some, slice_get}

-- a number has a place among others, which is new where there was none
pub record Opens (old new : List ℕ) (number place : ℕ) : Type 0 where
  pub placed : slice_get new place ≡ Some number
  pub grown : (new ≡ old) ⊎ ((new ≡ old ++ number ∷ []) × (place ≡ length old))

-- a table has for each number its place
abbrev pub HasPlaces : List ℕ → List ℕ → Type 0
HasPlaces table numbers = (p n : ℕ) → slice_get numbers p ≡ Some n → get_or table n 0 ≡ p
