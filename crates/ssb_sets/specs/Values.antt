-- The values of a column as numbers, and between which numbers they lie.
-- Source: own.
use Rattle.std.specs.Prelude.{ℤ, pos, neg_ℤ, ◌≤ℤ◌, List, map}
use Rattle.ssb_packed.specs.Lent.{codes_in, numbers_in}
use Rattle.ssb_packed.specs.declared.lent.NumberSlice.{NumberSlice}
use Rattle.ssb_packed.specs.declared.lent.NumberSlice.TheVariants as slices
use Rattle.ssb_sets.specs.declared.values.Bounds.{Bounds}
use Rattle.ssb_sets.specs.declared.values.ValueSlice.{ValueSlice}
use Rattle.ssb_sets.specs.declared.values.ValueSlice.TheVariants as values

-- the number of each row: the column's own, or the code of its text
abbrev pub values_in : ValueSlice → List ℤ
values_in (values.Numbers s) = numbers_in s
values_in (values.Codes s) = map pos (codes_in s)

-- the least and the greatest number in one byte, in two, in four and in eight
abbrev pub byte_bounds : Bounds
byte_bounds = record { least = neg_ℤ (pos 128); greatest = pos 127 }

abbrev pub two_byte_bounds : Bounds
two_byte_bounds = record { least = neg_ℤ (pos 32768); greatest = pos 32767 }

abbrev pub four_byte_bounds : Bounds
four_byte_bounds = record { least = neg_ℤ (pos 2147483648); greatest = pos 2147483647 }

abbrev pub eight_byte_bounds : Bounds
eight_byte_bounds = record { least = neg_ℤ (pos 9223372036854775808); greatest = pos 9223372036854775807 }

-- the least and the greatest code
abbrev pub code_bounds : Bounds
code_bounds = record { least = pos 0; greatest = pos 4294967295 }

-- between which numbers those of a slice lie
abbrev pub number_bounds : NumberSlice → Bounds
number_bounds (slices.One s) = byte_bounds
number_bounds (slices.Two s) = two_byte_bounds
number_bounds (slices.Four s) = four_byte_bounds
number_bounds (slices.Eight s) = eight_byte_bounds

abbrev pub bounds_of : ValueSlice → Bounds
bounds_of (values.Numbers s) = number_bounds s
bounds_of (values.Codes s) = code_bounds

-- a number lies within bounds
abbrev pub IsWithin : Bounds → ℤ → Type 0
IsWithin b n = (b.least ≤ℤ n) × (n ≤ℤ b.greatest)
