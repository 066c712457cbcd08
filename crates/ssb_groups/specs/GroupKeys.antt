-- The keys of groups, as they are kept.
-- Source: own; for the contracts inside this crate.
use Rattle.std.specs.Prelude.{ℕ, Bool, nat_eq, List, ◌++◌, map}
use Rattle.std.specs.Cmp.Lexicographic.{pointwise}
use Rattle.std.specs.List.{IsDistinct}
use Rattle.std.specs.declared.alloc.Global.{Global}
use Rattle.std.specs.declared.vec.Vec.{Vec}
use Rattle.indexmap.specs.IndexSet.{IsUnique}
use Rattle.ssb_keys.specs.KeySets.{numbers_in}
use Rattle.ssb_keys.specs.declared.kept.Kept.{Kept}
use Rattle.ssb_keys.specs.contracts.kept.KeptPartialEq.TheImpl as key_cells
use Rattle.ssb_groups.specs.declared.key.KeyRef.{KeyRef}
use Rattle.ssb_groups.specs.declared.key.KeyRef.TheVariants as ref
use Rattle.ssb_groups.specs.declared.keys.Keys.{Keys}

-- one number for the values of all group columns, or what stands for each
pub data GroupKey : Type 0 where
  Number : ℕ → GroupKey
  Cells : List Kept → GroupKey

-- a key that is lent
abbrev pub lent : KeyRef → GroupKey
lent (ref.Number n) = Number n
lent (ref.Cells cells) = Cells cells.now

-- a key of cells
abbrev pub of_cells : Vec Kept Global → GroupKey
of_cells v = Cells v.items

-- the keys in their order; those of one job are all numbers, or all cells
abbrev pub keys_in : Keys → List GroupKey
keys_in k = map Number (numbers_in k.numbers) ++ map of_cells k.cells.keys

abbrev pub cells_equal : Kept → Kept → Bool
cells_equal = key_cells.eq-value.it

-- the same cells
abbrev pub same_cells : Vec Kept Global → Vec Kept Global → Bool
same_cells v w = pointwise cells_equal v.items w.items

-- none is there twice
pub record AreUnique (k : Keys) : Type 0 where
  pub numbers : IsDistinct nat_eq (numbers_in k.numbers)
  pub cells : IsUnique same_cells k.cells
