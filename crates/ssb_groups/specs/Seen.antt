-- A combination of rows as the aggregates see it.
-- Source: SQL-92, 7.7 <group by clause>, 6.5 <set function specification>.
use Rattle.std.specs.Prelude.{ℕ, ◌+◌, pos, List, map, slice_get, unwrap_or}
use Rattle.ssb_cells.specs.Cell.{Cell, number}
use Rattle.ssb_query.specs.declared.column.BoundColumn.{BoundColumn}
use Rattle.ssb_trees.specs.declared.aggregate.Aggregate.TheVariants as aggregate
use Rattle.ssb_conditions.specs.Rows.{column_value}
use Rattle.ssb_plan.specs.JobShape.{JobShape, from_tables}
use Rattle.ssb_groups.specs.Rows.{SeenRow}
use Rattle.ssb_groups.specs.Value.{Outcome, known, value}
use Rattle.ssb_trees.specs.declared.aggregate.Aggregate.{Aggregate}

-- what an aggregate takes of a combination; COUNT(*) takes a number of each
abbrev pub argument : (BoundColumn → Cell) → Aggregate BoundColumn → Outcome
argument cell aggregate.Rows = known (number (pos 1))
argument cell (aggregate.Of function e) = value cell e

-- the row of the fact table in a combination, counted from 1
abbrev pub fact_of : JobShape → List ℕ → ℕ
fact_of j rows = unwrap_or (slice_get rows j.query.fact) 0 + 1

-- a combination of row numbers, seen
abbrev pub seen : JobShape → List ℕ → SeenRow
seen j rows =
    let cell : BoundColumn → Cell = column_value (from_tables j) rows in
    record {
      fact = fact_of j rows;
      key = map cell j.query.groups;
      arguments = map (argument cell) j.query.aggregates;
    }
