-- How many fields a record has.
-- Source: the benchmark's generator closes each line with a bar.
use Rattle.std.specs.Prelude.{◌+◌, ◌==◌, ◌&&◌, ◌||◌, ℕ, Bool, length}
use Rattle.ssb_records.specs.Records.{Fields, field, is_empty}

-- a record has so many fields, or one more, which is empty
abbrev pub has_width : ℕ → Fields → Bool
has_width n r = (length r == n) || ((length r == n + 1) && is_empty (field r n))
