-- How a list of flags is kept in bits.
-- For the contracts inside this crate.
use Rattle.std.specs.Prelude.{◌≡◌, ℕ, ◌≤◌, Bool, false, List, map}
use Rattle.std.specs.List.{range_with_len}
use Rattle.ssb_packed.specs.Lent.{flag_at}
use Rattle.ssb_packed.specs.declared.nulls.Nulls.TheInside.{Inside}

abbrev pub flags_of : Inside → List Bool
flags_of n = map (flag_at n.words.items) (range_with_len 0 n.len)

-- no flag is set behind the last
abbrev pub IsClear : Inside → Type 0
IsClear n = (i : ℕ) → n.len ≤ i → flag_at n.words.items i ≡ false
