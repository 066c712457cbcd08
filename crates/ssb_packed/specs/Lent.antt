-- What code that goes over many rows is lent: for each row a number or a code, and a bit in words of 64.
-- Source: own.
use Rattle.std.specs.Prelude.{ℕ, ℤ, ◌+◌, ◌/◌, ◌%◌, ◌^◌, ◌==◌, Bool, List, map, slice_index_or}
use Rattle.std.specs.Int.{bit_at, cast_unsigned, w64}
use Rattle.ssb_packed.specs.declared.lent.CodeSlice.{CodeSlice}
use Rattle.ssb_packed.specs.declared.lent.NumberSlice.{NumberSlice}
use Rattle.ssb_packed.specs.declared.lent.NumberSlice.TheVariants as numbers

abbrev pub numbers_in : NumberSlice → List ℤ
numbers_in (numbers.One s) = s.now
numbers_in (numbers.Two s) = s.now
numbers_in (numbers.Four s) = s.now
numbers_in (numbers.Eight s) = s.now

-- the code that a number is kept for: 128 more, and 32 bits of it
abbrev pub kept_code : ℤ → ℕ
kept_code n = (cast_unsigned w64 n + 128) % 2 ^ 32

abbrev pub codes_in : CodeSlice → List ℕ
codes_in s = map kept_code (numbers_in s.numbers)

-- the flag at a place: a bit of the word there, and false where there is no such word
abbrev pub flag_at : List ℕ → ℕ → Bool
flag_at words i = bit_at (slice_index_or words (i / 64) 0) (i % 64) == 1
