-- A table's columns and cells.
use Rattle.std.proofs.Common.{◌≡◌, ℕ, ◌<◌, zero, suc, List, [], ◌∷◌, length, get_or, slice_get, Some, ap, ◌∙◌, arith}
use Rattle.ssb_cells.specs.Cell.{Cell}
use Rattle.ssb_cells.specs.Tables.{Filled, AreLong, cell_in_column, cell_at}

-- each column of a table has so many values
pub long-at : (n i : ℕ) (cs : List Filled) (d : Filled) → AreLong n cs → i < length cs → length (get_or cs i d).values ≡ n
long-at n i [] d long lt = absurd (omega arith)
long-at n zero (c ∷ cs) d long lt = long.0
long-at n (suc i) (c ∷ cs) d long lt = long-at n i cs d long.1 (omega arith)

-- a value of a column is that cell of the table
pub cell-of : (cs : List Filled) (column row : ℕ) (c : Filled) (v : Cell) → slice_get cs column ≡ Some c → slice_get c.values row ≡ Some v → cell_at cs column row ≡ Some v
cell-of cs column row c v is got = ap (λ o. cell_in_column o row) is ∙ got
