-- What is read of a combination where a job's columns stand in the tables.
-- Source: own; for the contracts inside this crate.
use Rattle.std.specs.Prelude.{◌≡◌, ℕ, ◌<◌, pos, List, [], ◌∷◌, length, get_or, option_map, Option, None, Some, slice_get, unwrap_or, ⊤}
use Rattle.ssb_cells.specs.Cell.{Cell, null, number}
use Rattle.ssb_cells.specs.Tables.{rows_in, Columns}
use Rattle.ssb_conditions.specs.Rows.{column_value}
use Rattle.ssb_plan.specs.Inputs.{table_at, values_of}
use Rattle.ssb_plan.specs.JobShape.{JobShape, from_tables}
use Rattle.ssb_plan.specs.declared.input.ColumnRef.{ColumnRef}
use Rattle.ssb_plan.specs.declared.input.Input.{Input}
use Rattle.ssb_plan.specs.declared.input.Input.TheVariants as input
use Rattle.ssb_query.specs.declared.column.BoundColumn.{BoundColumn}
use Rattle.ssb_groups.specs.Keys.{kept_cell}
use Rattle.ssb_groups.specs.Value.{Outcome, column_outcome, known, number_of}
use Rattle.ssb_keys.specs.declared.kept.Kept.{Kept}
use Rattle.ssb_keys.specs.declared.kept.Kept.TheVariants as kept

-- a column is one of these tables'
pub record IsColumn (tables : List Columns) (r : ColumnRef) : Type 0 where
  pub table : r.table < length tables
  pub column : r.column < length (table_at tables r.table)

abbrev pub AreAllColumns : List Columns → List ColumnRef → Type 0
AreAllColumns tables [] = ⊤
AreAllColumns tables (r ∷ rs) = IsColumn tables r × AreAllColumns tables rs

-- a combination has a row of its table
pub record HasRow (tables : List Columns) (rows : List ℕ) (r : ColumnRef) : Type 0 where
  pub place : r.place < length rows
  pub row : unwrap_or (slice_get rows r.place) 0 < rows_in (table_at tables r.table)

-- what stands for its value in a combination
abbrev pub cell_in : List Columns → List ℕ → ColumnRef → Kept
cell_in tables rows r =
    let values : List Cell = values_of tables r in
    kept_cell values (unwrap_or (slice_get values (unwrap_or (slice_get rows r.place) 0)) null)

-- what stands for the values of so many rows of a column
pub record AreCellsOf (values : List Cell) (rows : List ℕ) (count : ℕ) (cells : List Kept) : Type 0 where
  pub many : length cells ≡ count
  pub each : (at : ℕ) → at < count → option_map (kept_cell values) (slice_get values (get_or rows at 0)) ≡ Some (get_or cells at kept.Null)

-- where there may be no column, there is no text

abbrev pub values_at : List Columns → Option ColumnRef → List Cell
values_at tables None = []
values_at tables (Some r) = values_of tables r

abbrev pub IsSomeColumn : List Columns → Option ColumnRef → Type 0
IsSomeColumn tables None = ⊤
IsSomeColumn tables (Some r) = IsColumn tables r

-- ---- by the query

-- the column of the query that stands there
abbrev pub bound : ColumnRef → BoundColumn
bound r = record { table = r.place; column = r.column }

-- its value in a combination
abbrev pub ref_value : JobShape → List ℕ → ColumnRef → Cell
ref_value j rows r = column_value (from_tables j) rows (bound r)

-- what an input is of a combination; COUNT(*) takes a number of each
abbrev pub input_value : JobShape → List ℕ → Input → Outcome
input_value j rows input.Rows = known (number (pos 1))
input_value j rows (input.Column r) = column_outcome (ref_value j rows r)
input_value j rows (input.Number e) = number_of (ref_value j rows) e

-- the values among which its texts are
abbrev pub input_texts : List Columns → Input → List Cell
input_texts tables input.Rows = []
input_texts tables (input.Column r) = values_of tables r
input_texts tables (input.Number e) = []
