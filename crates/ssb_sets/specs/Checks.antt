-- What is asked of each number of a column, in the place of a set.
-- Source: own.
use Rattle.std.specs.Prelude.{◌≡◌, ℤ, ◌-ℤ◌, ◌≤ℤ◌, ◌-◌, Bool, true, false, not, ◌&&◌, if◌then◌else◌, int_le, List, length, unsigned_abs, slice_index_or}
use Rattle.std.specs.HashSet as hash_set
use Rattle.std.specs.Ordering.{int_eq}
use Rattle.ssb_sets.specs.NumberSets.{has}
use Rattle.ssb_sets.specs.declared.check.Check.{Check}
use Rattle.ssb_sets.specs.declared.check.Check.TheVariants.{Never, Always, Within, Flagged, Listed, Searched}
use Rattle.ssb_sets.specs.declared.check.Points.{Points}
use Rattle.ssb_sets.specs.declared.set.NumberSet.{NumberSet}
use Rattle.ssb_sets.specs.declared.values.Bounds.{Bounds}

-- what flags say of a number, from a base on
abbrev pub flag_of : ℤ → List Bool → Bool → ℤ → Bool
flag_of base flags others n = if int_le base n then slice_index_or flags (unsigned_abs (n -ℤ base)) others else others

-- the last of several flags
abbrev pub last_of : List Bool → Bool
last_of flags = slice_index_or flags (length flags - 1) false

-- what points say of a number
abbrev pub point_of : Points → ℤ → Bool
point_of p n = if hash_set.contains int_eq p.numbers n then not p.others else p.others

-- whether a number passes
abbrev pub passes : Check → ℤ → Bool
passes Never n = false
passes Always n = true
passes (Within low high) n = int_le low n && int_le n high
passes (Flagged f) n = flag_of f.base f.flags.items f.others n
passes (Listed p) n = point_of p n
passes (Searched s) n = has s n

-- of the numbers within bounds those pass that the set has
abbrev pub Serves : NumberSet → Bounds → Check → Type 0
Serves s b check = (n : ℤ) → b.least ≤ℤ n → n ≤ℤ b.greatest → passes check n ≡ has s n
