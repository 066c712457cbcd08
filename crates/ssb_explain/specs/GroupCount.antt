-- The most groups that GROUP BY may make: each column's values with each of the others', whatever WHERE keeps.
-- Source: own.
use Rattle.std.specs.Prelude.{◌+◌, ◌*◌, ◌-ℤ◌, ℕ, if◌then◌else◌, List, Option, None, Some, fold, int_lt, length, min, slice_get, unsigned_abs}
use Rattle.std.specs.List.{list_any}
use Rattle.ssb_cells.specs.Cell.{Cell}
use Rattle.ssb_cells.specs.Codes.{texts_of}
use Rattle.ssb_cells.specs.Tables.{Columns, Filled}
use Rattle.ssb_conditions.specs.Holds.{is_null}
use Rattle.ssb_plan.specs.Inputs.{table_at}
use Rattle.ssb_plan.specs.Spans.{span_of}
use Rattle.ssb_plan.specs.declared.index.Span.{Span}
use Rattle.ssb_plan.specs.declared.input.ColumnRef.{ColumnRef}
use Rattle.ssb_terms.specs.declared.rule.ColType.{ColType}
use Rattle.ssb_terms.specs.declared.rule.ColType.TheVariants as kinds

-- ---- a column

-- how many numbers there are from the least to the greatest
abbrev pub number_count : Span → ℕ
number_count s = if int_lt s.greatest s.least then 0 else unsigned_abs (s.greatest -ℤ s.least) + 1

-- the different numbers that there may be among values, or the different texts that there are
abbrev pub known_values : ColType → List Cell → ℕ
known_values kinds.Int values = number_count (span_of values)
known_values kinds.Text values = length (texts_of values)

-- null, where it is among values
abbrev pub null_count : List Cell → ℕ
null_count values = if list_any is_null values then 1 else 0

-- the different values of a column with null, at most as many as it has rows
abbrev pub most_values : Option Filled → ℕ
most_values None = 0
most_values (Some f) = min (known_values f.kind f.values + null_count f.values) (length f.values)

-- ---- the columns of GROUP BY

abbrev pub key_count : List Columns → ColumnRef → ℕ
key_count tables r = most_values (slice_get (table_at tables r.table) r.column)

-- the groups of some columns with one more, at most so many
abbrev pub with_key : List Columns → ℕ → ℕ → ColumnRef → ℕ
with_key tables most groups r = min (groups * key_count tables r) most

-- the groups of columns, at most one for each of so many rows
abbrev pub groups_by : List Columns → ℕ → List ColumnRef → ℕ
groups_by tables most rs = fold (with_key tables most) 1 rs
