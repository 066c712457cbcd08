-- Conditions that are met.
-- Source: SQL-92, 8.12 <search condition>, 7.6 <where clause>.
use Rattle.std.specs.Prelude.{Bool, List}
use Rattle.std.specs.List.{list_all}
use Rattle.ssb_cells.specs.Truth.{is_true}
use Rattle.ssb_conditions.specs.Holds.{holds}
use Rattle.ssb_conditions.specs.Rows.{RowValuation}
use Rattle.ssb_query.specs.declared.column.BoundColumn.{BoundColumn}
use Rattle.ssb_trees.specs.Conditions.{Filter}

-- whether a condition is True
abbrev pub is_met : RowValuation → Filter BoundColumn → Bool
is_met v c = is_true (holds v c)

-- whether each of these conditions is True
abbrev pub all_true : RowValuation → List (Filter BoundColumn) → Bool
all_true v cs = list_all (is_met v) cs
