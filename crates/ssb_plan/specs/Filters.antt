-- What the conjuncts over one table ask of its rows, by column.
-- Source: own.
use Rattle.std.specs.Prelude.{◌≡◌, ◌⊎◌, ◌&&◌, ◌||◌, ℕ, ℤ, Bool, false, not, nat_eq, nat_lt, List, length, map, Option, Some, None, if◌then◌else◌, is_some, slice_get, unwrap_or}
use Rattle.std.specs.List.{All, filter, list_all}
use Rattle.ssb_cells.specs.Cell.{null}
use Rattle.ssb_cells.specs.Tables.{Columns, Filled, cell_at}
use Rattle.ssb_cells.specs.Truth.{all_of, is_true, truth}
use Rattle.ssb_cells.specs.declared.truth.Truth.{Truth}
use Rattle.ssb_sets.specs.Checks.{Serves}
use Rattle.ssb_sets.specs.NumberSets.{has}
use Rattle.ssb_sets.specs.Values.{eight_byte_bounds}
use Rattle.ssb_query.specs.declared.column.BoundColumn.{BoundColumn}
use Rattle.ssb_conditions.specs.Holds.{holds}
use Rattle.ssb_conditions.specs.Met.{all_true}
use Rattle.ssb_plan.specs.Only.{alone_at, meets_local, only_at}
use Rattle.ssb_conditions.specs.Rows.{RowValuation}
use Rattle.ssb_plan.specs.Sets.{Fits, Tells, encoded, sole_column}
use Rattle.ssb_plan.specs.declared.column_filter.ColumnFilter.{ColumnFilter}
use Rattle.ssb_plan.specs.declared.sets.ValueSet.{ValueSet}
use Rattle.ssb_plan.specs.declared.table_filter.TableFilter.{TableFilter}
use Rattle.ssb_trees.specs.Conditions.{Filter}

-- Rows of a column.

-- for each row of a column the number by which its value stands there; a null has any
pub record AreEncoded (f : Filled) (ns : List ℤ) : Type 0 where
  pub same : length ns ≡ length f.values
  pub each : (i : ℕ) (n : ℤ) → slice_get ns i ≡ Some n → (slice_get f.values i ≡ Some null) ⊎ (encoded f (unwrap_or (slice_get f.values i) null) ≡ Some n)

abbrev pub encoded_in : Option Filled → ℕ → Option ℤ
encoded_in None row = None
encoded_in (Some f) row = encoded f (unwrap_or (slice_get f.values row) null)

-- the number by which a row's value stands in a column of a table; none for a null
abbrev pub encoded_at : Columns → ℕ → ℕ → Option ℤ
encoded_at t column row = encoded_in (slice_get t column) row

-- what a set says of a value
abbrev pub told : ValueSet → Option ℤ → Truth
told s None = s.null
told s (Some n) = truth (has s.numbers n)

-- whether a row passes a filter of a column
abbrev pub passes_column : Columns → ColumnFilter → ℕ → Bool
passes_column t f row = is_true (told f.set (encoded_at t f.column row))

-- the number by which a row's value stands is one of 64 bits, and only a null has none
pub record StandsAt (t : Columns) (column row : ℕ) : Type 0 where
  pub fits : (n : ℤ) → encoded_at t column row ≡ Some n → Fits n
  pub null : encoded_at t column row ≡ None → unwrap_or (cell_at t column row) null ≡ null

-- a test says what a filter of a column says of each row whose value stands
abbrev pub SaysSame : Columns → (ColumnFilter → ℕ → Bool) → ColumnFilter → Type 0
SaysSame t p f = (r : ℕ) → StandsAt t f.column r → passes_column t f r ≡ p f r

-- a filter's column is there, and its check stands for its set
abbrev pub IsThere : Columns → ColumnFilter → Type 0
IsThere t f = (c : Filled) × (slice_get t f.column ≡ Some c) × Serves f.set.numbers eight_byte_bounds f.check

-- Conjuncts by column.

abbrev pub own_column : ℕ → ℕ → Option BoundColumn → Option ℕ
own_column place count None = None
own_column place count (Some x) = if nat_eq x.table place && nat_lt x.column count then Some x.column else None

-- the column of the table at this place, with so many, that a conjunct is tested by: the one that it speaks of alone
abbrev pub asked_column : ℕ → ℕ → Filter BoundColumn → Option ℕ
asked_column place count c = if only_at place c then own_column place count (sole_column c) else None

abbrev pub is_this : ℕ → Option ℕ → Bool
is_this k None = false
is_this k (Some n) = nat_eq n k

-- the conjuncts that are tested by a column
abbrev pub asked_of : ℕ → ℕ → ℕ → List (Filter BoundColumn) → List (Filter BoundColumn)
asked_of place count column cs = filter (λ c. is_this column (asked_column place count c)) cs

-- whether a conjunct over the table at this place is tested by no column: it speaks of several, or of none
abbrev pub is_evaluated : ℕ → ℕ → Filter BoundColumn → Bool
is_evaluated place count c = only_at place c && not (is_some (asked_column place count c))

-- the filter of a column: its set is that of all conjuncts that are tested by it, together
pub record IsColumnFilter (t : Columns) (place : ℕ) (cs : List (Filter BoundColumn)) (f : ColumnFilter) : Type 0 where
  pub there : IsThere t f
  pub tells : (c : Filled) → slice_get t f.column ≡ Some c → Tells (record { table = place; column = f.column }) c (λ v. all_of (map (holds v) (asked_of place (length t) f.column cs))) f.set

-- what conjuncts ask of the rows of a table: each that speaks of one column alone is tested by that column's filter, and the others over this table are evaluated
pub record IsTableFilter (t : Columns) (place : ℕ) (cs : List (Filter BoundColumn)) (f : TableFilter) : Type 0 where
  pub columns : All (IsColumnFilter t place cs) f.columns.items
  pub each : (v : RowValuation) → list_all (λ (g : ColumnFilter). all_true v (asked_of place (length t) g.column cs)) f.columns.items ≡ all_true v (filter (λ c. is_some (asked_column place (length t) c)) cs)
  pub others : f.others.items ≡ filter (is_evaluated place (length t)) cs

-- whether it asks anything
abbrev pub tests_rows : TableFilter → Bool
tests_rows f = not (nat_eq (length f.columns.items) 0) || not (nat_eq (length f.others.items) 0)

-- whether a row of the table at this place meets the conjuncts that speak of it alone
abbrev pub passes : List Columns → ℕ → List (Filter BoundColumn) → ℕ → Bool
passes tables place cs row = meets_local tables place cs (alone_at place row)
