-- What the slices that a column lends tell of its values.
-- Source: own.
use Rattle.std.specs.Prelude.{◌≡◌, ◌⊎◌, ◌↔◌, ℕ, ℤ, true, List, length, Some, slice_get}
use Rattle.ssb_cells.specs.Cell.{Cell, null, number}
use Rattle.ssb_cells.specs.Codes.{code_at}
use Rattle.ssb_packed.specs.Lent.{flag_at}

-- a number for each value, which is null or that number
pub record AreNumbers (values : List Cell) (ns : List ℤ) : Type 0 where
  pub same : length ns ≡ length values
  pub each : (i : ℕ) (n : ℤ) → slice_get ns i ≡ Some n → (slice_get values i ≡ Some null) ⊎ (slice_get values i ≡ Some (number n))

-- a code for each value, which is null or has that code
pub record AreCodes (values : List Cell) (cs : List ℕ) : Type 0 where
  pub same : length cs ≡ length values
  pub each : (i : ℕ) (c : ℕ) → slice_get cs i ≡ Some c → (slice_get values i ≡ Some null) ⊎ (code_at values i ≡ Some c)

-- the flags that are set are those of the nulls
abbrev pub AreNulls : List Cell → List ℕ → Type 0
AreNulls values words = (i : ℕ) → (flag_at words i ≡ true) ↔ (slice_get values i ≡ Some null)
