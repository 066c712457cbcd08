-- A combination of rows as the aggregates see it.
-- Source: SQL-92, 7.7 <group by clause>: values are equal, or both null.
use Rattle.std.specs.Prelude.{ℕ, Bool, true, false, List}
use Rattle.std.specs.Cmp.Lexicographic.{pointwise}
use Rattle.std.specs.Ordering.{int_eq}
use Rattle.std.specs.Str.{bytes_eq}
use Rattle.ssb_cells.specs.Cell.{Cell, null, number, text}
use Rattle.ssb_groups.specs.Value.{Outcome}

-- a group's key: the values of the group columns
abbrev pub Key : Type 0
Key = List Cell

abbrev pub cell_eq : Cell → Cell → Bool
cell_eq null null = true
cell_eq (number a) (number b) = int_eq a b
cell_eq (text a) (text b) = bytes_eq a b
cell_eq a b = false

-- keys are equal where their values are; nulls are equal
abbrev pub key_eq : Key → Key → Bool
key_eq j k = pointwise cell_eq j k

-- what the aggregates see of a combination: its row of the fact table, counted from 1, its group's key, and one value for each aggregate
pub record SeenRow : Type 0 where
  pub fact : ℕ
  pub key : Key
  pub arguments : List Outcome
