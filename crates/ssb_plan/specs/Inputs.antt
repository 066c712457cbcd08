-- The columns and the aggregates of a query, found in its tables.
-- Source: own.
use Rattle.std.specs.Prelude.{◌≡◌, ℕ, Bool, true, false, ◌&&◌, nat_eq, List, [], ◌∷◌, ◌++◌, map, Option, None, Some, slice_get, unwrap_or}
use Rattle.std.specs.List.{list_all}
use Rattle.ssb_cells.specs.Cell.{Cell}
use Rattle.ssb_cells.specs.Tables.{Columns, Filled}
use Rattle.ssb_query.specs.Tables.{kind_at}
use Rattle.ssb_query.specs.declared.column.BoundColumn.{BoundColumn}
use Rattle.ssb_query.specs.declared.query.QueryParts.{QueryParts}
use Rattle.ssb_plan.specs.declared.input.ColumnRef.{ColumnRef}
use Rattle.ssb_plan.specs.declared.input.Input.{Input}
use Rattle.ssb_plan.specs.declared.input.Input.TheVariants as input
use Rattle.ssb_plan.specs.declared.index.Span.{Span}
use Rattle.ssb_plan.specs.Spans.{span_of}
use Rattle.ssb_terms.specs.declared.rule.ColType.{ColType}
use Rattle.ssb_terms.specs.declared.rule.ColType.TheVariants as kinds
use Rattle.ssb_trees.specs.Expressions.{columns, mapped, own_column}
use Rattle.ssb_trees.specs.Lists.{concat}
use Rattle.ssb_trees.specs.declared.aggregate.Aggregate.{Aggregate}
use Rattle.ssb_trees.specs.declared.aggregate.Aggregate.TheVariants as aggregate
use Rattle.ssb_trees.specs.declared.expr.Expr.{Expr}

-- Where a column of FROM's tables stands. Each column that a query groups by or computes with is there; what stands here for others is of no matter.
abbrev pub column_ref : QueryParts → BoundColumn → ColumnRef
column_ref q x = record { place = x.table; table = unwrap_or (slice_get q.from x.table) 0; column = x.column; kind = unwrap_or (kind_at q.tables q.from x) kinds.Int }

-- what an expression takes of a combination, where it is this column alone, or none
abbrev pub input_by : QueryParts → Expr BoundColumn → Option BoundColumn → Input
input_by q e (Some x) = input.Column (column_ref q x)
input_by q e None = input.Number (mapped BoundColumn ColumnRef (column_ref q) e)

-- what an aggregate takes of a combination
abbrev pub input_of : QueryParts → Aggregate BoundColumn → Input
input_of q aggregate.Rows = input.Rows
input_of q (aggregate.Of function e) = input_by q e (own_column e)

-- the columns that it takes
abbrev pub input_columns : Input → List ColumnRef
input_columns input.Rows = []
input_columns (input.Column r) = r ∷ []
input_columns (input.Number e) = columns ColumnRef e

abbrev pub column_in : Option Columns → ColumnRef → Option Filled
column_in None r = None
column_in (Some t) r = slice_get t r.column

abbrev pub is_number : ℕ → Option ℕ → Bool
is_number n None = false
is_number n (Some m) = nat_eq m n

abbrev pub is_kind : ColType → ColType → Bool
is_kind kinds.Int kinds.Int = true
is_kind kinds.Text kinds.Text = true
is_kind a b = false

abbrev pub is_of_kind : ColType → Option Filled → Bool
is_of_kind kind None = false
is_of_kind kind (Some f) = is_kind f.kind kind

-- whether a column is there: its table is the one at its place of FROM, and has it, of this type
abbrev pub has_column : QueryParts → List Columns → ColumnRef → Bool
has_column q tables r = is_number r.table (slice_get q.from r.place) && is_of_kind r.kind (column_in (slice_get tables r.table) r)

-- a table of the catalog; the table without columns where there is no such table
abbrev pub table_at : List Columns → ℕ → Columns
table_at tables n = unwrap_or (slice_get tables n) []

abbrev pub values_in : Option Filled → List Cell
values_in None = []
values_in (Some c) = c.values

-- the values of a column
abbrev pub values_of : List Columns → ColumnRef → List Cell
values_of tables r = values_in (slice_get (table_at tables r.table) r.column)

-- the least and the greatest of its numbers
abbrev pub key_span : List Columns → ColumnRef → Span
key_span tables r = span_of (values_of tables r)

-- the columns of GROUP BY with their spans, and what each aggregate takes, in the order of the query: all of these columns are there
pub record AreInputs (q : QueryParts) (tables : List Columns) (rs : List ColumnRef) (ss : List Span) (is : List Input) : Type 0 where
  pub keys : rs ≡ map (column_ref q) q.groups
  pub spans : ss ≡ map (key_span tables) rs
  pub inputs : is ≡ map (input_of q) q.aggregates
  pub there : list_all (has_column q tables) (rs ++ concat (map input_columns is)) ≡ true
