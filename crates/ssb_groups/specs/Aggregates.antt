-- What an aggregate is over the values that it takes.
-- Source: SQL-92, 6.5 <set function specification>; in which order MIN and MAX take values is said in ssb_cells' Order.
use Rattle.std.specs.Prelude.{ℕ, ◌+◌, ◌==◌, ℤ, pos, ◌+ℤ◌, if◌then◌else◌, List, [], ◌∷◌, map, slice_get, unwrap_or}
use Rattle.std.specs.Ordering.{min_by_ordering, max_by_ordering}
use Rattle.ssb_cells.specs.Cell.{Cell, null, number, text}
use Rattle.ssb_cells.specs.Order.{cell_cmp}
use Rattle.ssb_query.specs.declared.column.BoundColumn.{BoundColumn}
use Rattle.ssb_trees.specs.declared.aggregate.Aggregate.{Aggregate}
use Rattle.ssb_trees.specs.declared.aggregate.Aggregate.TheVariants as aggregate
use Rattle.ssb_trees.specs.declared.aggregate.SetFunction.TheVariants as function
use Rattle.ssb_groups.specs.Rows.{SeenRow}
use Rattle.ssb_groups.specs.Value.{Outcome, over, known}

-- ---- how many there are, and their sum

-- 1 for a value that is not null
abbrev pub count_of : Outcome → ℕ
count_of over = 0
count_of (known null) = 0
count_of (known (number n)) = 1
count_of (known (text t)) = 1

-- what a value adds to a sum
abbrev pub amount_of : Outcome → ℤ
amount_of over = pos 0
amount_of (known null) = pos 0
amount_of (known (number n)) = n
amount_of (known (text t)) = pos 0

-- how many values are not null
abbrev pub value_count : List Outcome → ℕ
value_count [] = 0
value_count (x ∷ xs) = count_of x + value_count xs

-- the exact sum of the numbers, in whole numbers of any size
abbrev pub exact_sum : List Outcome → ℤ
exact_sum [] = pos 0
exact_sum (x ∷ xs) = amount_of x +ℤ exact_sum xs

-- ---- the least and the greatest

-- the value, which one beyond the range has not
abbrev pub cell_in : Outcome → Cell
cell_in over = null
cell_in (known c) = c

-- the lesser of two values that are not null
abbrev pub lesser : Cell → Cell → Cell
lesser null b = b
lesser a null = a
lesser a b = min_by_ordering (cell_cmp a b) a b

-- the greater of two values, of which null is the least
abbrev pub greater : Cell → Cell → Cell
greater a b = max_by_ordering (cell_cmp a b) a b

-- what a choice between two values leaves of all of them; null of none
abbrev pub chosen : (Cell → Cell → Cell) → List Outcome → Cell
chosen choice [] = null
chosen choice (x ∷ xs) = choice (cell_in x) (chosen choice xs)

-- the least and the greatest of the values that are not null
abbrev pub least_value : List Outcome → Cell
least_value = chosen lesser

abbrev pub greatest_value : List Outcome → Cell
greatest_value = chosen greater

-- ---- aggregates

-- an aggregate over values: COUNT counts them, and the others are null over no value
abbrev pub agg : Aggregate BoundColumn → List Outcome → Cell
agg aggregate.Rows xs = number (pos (value_count xs))
agg (aggregate.Of function.Sum e) xs = if value_count xs == 0 then null else number (exact_sum xs)
agg (aggregate.Of function.Count e) xs = number (pos (value_count xs))
agg (aggregate.Of function.Min e) xs = least_value xs
agg (aggregate.Of function.Max e) xs = greatest_value xs

-- what the i-th aggregate takes of the rows
abbrev pub arguments_at : ℕ → List SeenRow → List Outcome
arguments_at i R = map (λ r. unwrap_or (slice_get r.arguments i) (known null)) R

-- aggregates over the rows, of which the first is the i-th
abbrev pub totals_from : ℕ → List (Aggregate BoundColumn) → List SeenRow → List Cell
totals_from i [] R = []
totals_from i (a ∷ aggs) R = agg a (arguments_at i R) ∷ totals_from (i + 1) aggs R

-- each aggregate over the rows
abbrev pub totals : List (Aggregate BoundColumn) → List SeenRow → List Cell
totals aggs R = totals_from 0 aggs R
