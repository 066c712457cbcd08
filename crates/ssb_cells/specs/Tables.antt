-- What a contract sees of a column and of a table: columns, all of one length.
-- Source: own.
use Rattle.std.specs.Prelude.{◌≡◌, ℕ, List, [], ◌∷◌, length, Option, Some, None, slice_get, ⊤}
use Rattle.ssb_terms.specs.declared.rule.ColType.{ColType}
use Rattle.ssb_cells.specs.Cell.{Cell}

-- a column: its type, and its values in order
pub record Filled : Type 0 where
  pub kind : ColType
  pub values : List Cell

-- a table is the list of its columns
abbrev pub Columns : Type 0
Columns = List Filled

-- how many rows columns of one length have
abbrev pub rows_in : List Filled → ℕ
rows_in [] = 0
rows_in (c ∷ cs) = length c.values

-- each column has so many values
abbrev pub AreLong : ℕ → List Filled → Type 0
AreLong n [] = ⊤
AreLong n (c ∷ cs) = (length c.values ≡ n) × AreLong n cs

-- the value of a column in a row, both counted from 0
abbrev pub cell_in_column : Option Filled → ℕ → Option Cell
cell_in_column None row = None
cell_in_column (Some c) row = slice_get c.values row

abbrev pub cell_at : List Filled → ℕ → ℕ → Option Cell
cell_at columns column row = cell_in_column (slice_get columns column) row
