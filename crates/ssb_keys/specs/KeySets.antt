-- The numbers of a set.
-- Source: own.
use Rattle.std.specs.Prelude.{ℕ, List}
use Rattle.ssb_keys.specs.declared.key_set.KeySet.{KeySet}
use Rattle.ssb_keys.specs.declared.key_set.KeySet.TheVariants as set

-- in the order in which they came
abbrev pub numbers_in : KeySet → List ℕ
numbers_in (set.Dense s) = s
numbers_in (set.Hashed s) = s
