-- The order of rows: by the keys of ORDER BY, ties by all select columns from left to right.
-- Source: SQL-92, 13.1 <declare cursor>; that ties are broken by all columns, and the place of null, are this project's own.
use Rattle.std.specs.Prelude.{ℕ, List, [], ◌∷◌, slice_get, unwrap_or, if◌then◌else◌}
use Rattle.std.specs.Ordering.{ordering_then}
use Rattle.std.specs.Cmp.Lexicographic.{slice_cmp}
use Rattle.std.specs.List.Sorted.{IsPermutation, IsSorted}
use Rattle.std.specs.declared.cmp.Ordering.{Ordering}
use Rattle.std.specs.declared.cmp.Ordering.TheVariants.{Equal}
use Rattle.ssb_cells.specs.Cell.{Cell, null}
use Rattle.ssb_cells.specs.Order.{cell_cmp}
use Rattle.ssb_query.specs.declared.query.BoundOrder.{BoundOrder}

-- the values of the select columns
abbrev pub Row : Type 0
Row = List Cell

-- the value of a row in a select column
abbrev pub at : Row → ℕ → Cell
at row place = unwrap_or (slice_get row place) null

-- the order of two rows by one key
abbrev pub by_key : BoundOrder → Row → Row → Ordering
by_key key a b = if key.descending then cell_cmp (at b key.item) (at a key.item) else cell_cmp (at a key.item) (at b key.item)

-- the order of two rows by the keys: that of the first key which tells them apart
abbrev pub by_keys : List BoundOrder → Row → Row → Ordering
by_keys [] a b = Equal
by_keys (key ∷ keys) a b = ordering_then (by_key key a b) (by_keys keys a b)

-- the order of two rows: by the keys, and then by all columns ascending
abbrev pub row_cmp : List BoundOrder → Row → Row → Ordering
row_cmp keys a b = ordering_then (by_keys keys a b) (slice_cmp cell_cmp a b)

-- the rows of a bag, in order
pub record IsOrdered (keys : List BoundOrder) (bag rows : List Row) : Type 0 where
  pub same : IsPermutation bag rows
  pub sorted : IsSorted (row_cmp keys) rows
