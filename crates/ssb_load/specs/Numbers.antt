-- The number that a field spells: `-` or nothing, then one digit or more, in the range of 64 bits.
-- Source: own; the range is that of `int`.
use Rattle.std.specs.Prelude.{ℕ, ℤ, pos, neg_ℤ, ◌^◌, Bool, ◌&&◌, List, length, drop, Option, Some, None, nat_lt, ◌+◌, if◌then◌else◌}
use Rattle.std.specs.Str.{all_ascii_digits}
use Rattle.std.specs.Str.Parse.{digits_value, starts_with_minus}

-- one digit or more, of a number below a limit
abbrev pub is_numeral_below : ℕ → List ℕ → Bool
is_numeral_below limit ds = all_ascii_digits ds && (nat_lt 0 (length ds) && nat_lt (digits_value 10 ds) limit)

abbrev pub number_of : List ℕ → Option ℤ
number_of bytes =
    if starts_with_minus bytes
    then (if is_numeral_below (2 ^ 63 + 1) (drop 1 bytes) then Some (neg_ℤ (pos (digits_value 10 (drop 1 bytes)))) else None)
    else (if is_numeral_below (2 ^ 63) bytes then Some (pos (digits_value 10 bytes)) else None)
