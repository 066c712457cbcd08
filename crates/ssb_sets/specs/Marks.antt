-- A bit for each row of a batch, 64 in a word.
-- Source: own.
use Rattle.std.specs.Prelude.{◌≡◌, ℕ, ℤ, ◌+◌, ◌-◌, ◌/◌, ◌%◌, ◌<◌, ◌≤◌, ◌==◌, ◌&&◌, Bool, false, int_le, List, slice_index_or}
use Rattle.std.specs.Int.{bit_at}
use Rattle.std.specs.List.{filter, range_with_len}

-- whether a bit of a word is set
abbrev pub has_bit : ℕ → ℕ → Bool
has_bit word i = bit_at word i == 1

-- whether the bit of a place is set
abbrev pub is_marked : List ℕ → ℕ → Bool
is_marked words i = has_bit (slice_index_or words (i / 64) 0) (i % 64)

-- the marks of so many rows from one on say what a test says of each, and no bit behind them is set
pub record AreMarked (p : ℕ → Bool) (from count : ℕ) (words : List ℕ) : Type 0 where
  pub each : (i : ℕ) → i < count → is_marked words i ≡ p (from + i)
  pub none : (i : ℕ) → count ≤ i → is_marked words i ≡ false

-- whether a number lies from a least to a greatest
abbrev pub is_between : ℤ → ℤ → ℤ → Bool
is_between low high n = int_le low n && int_le n high

-- the rows of the bits that are set in a word, whose first bit is that of a base
unfoldable pub rows_of : ℕ → ℕ → List ℕ
rows_of word base = filter (λ row. has_bit word (row - base)) (range_with_len base 64)
