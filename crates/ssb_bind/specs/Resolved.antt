-- A select with its names resolved: in the place of each name, the name and which columns of FROM's tables it fits.
-- Source: SQL-92, 6.4 <column reference>.
use Rattle.std.specs.Prelude.{ℕ, nat_eq, Bool, false, ◌&&◌, List, map, Option}
use Rattle.std.specs.List.{position}
use Rattle.ssb_catalog.specs.Shapes.{TableShape}
use Rattle.ssb_sql.specs.declared.named.ColumnName.{ColumnName}
use Rattle.ssb_sql.specs.declared.select.Output.{Output}
use Rattle.ssb_sql.specs.declared.select.Output.TheVariants as output
use Rattle.ssb_sql.specs.declared.select.Select.{Select}
use Rattle.ssb_trees.specs.Conditions.{mapped_filter}
use Rattle.ssb_trees.specs.Expressions.{mapped_aggregate}
use Rattle.ssb_query.specs.declared.column.BoundColumn.{BoundColumn}
use Rattle.ssb_bind.specs.Columns.{columns_for, fit_of}
use Rattle.ssb_bind.specs.declared.fit.Fit.{Fit}
use Rattle.ssb_bind.specs.declared.fit.Fit.TheVariants as fit
use Rattle.ssb_bind.specs.declared.resolved.Resolved.{Resolved}
use Rattle.ssb_bind.specs.declared.resolved.ResolvedName.{ResolvedName}
use Rattle.ssb_bind.specs.declared.resolved.ResolvedOutput.{ResolvedOutput}
use Rattle.ssb_bind.specs.declared.resolved.ResolvedOutput.TheVariants as resolved_output

-- a name, and which columns of FROM's tables it fits: none, one alone, or several
abbrev pub resolved : List TableShape → List ℕ → ColumnName → ResolvedName
resolved c from name = record { name = name.column; fit = fit_of (columns_for c from name) }

-- Outputs: a column is known by its place among the group columns, if it is one.

-- the same column of the same table of FROM
abbrev pub is_same_column : BoundColumn → BoundColumn → Bool
is_same_column x y = nat_eq x.table y.table && nat_eq x.column y.column

-- both names stand for the same column
abbrev pub is_same_fit : Fit BoundColumn → Fit BoundColumn → Bool
is_same_fit (fit.One x) (fit.One y) = is_same_column x y
is_same_fit f g = false

-- the place of the first group column that a name stands for
abbrev pub group_place : List ResolvedName → ResolvedName → Option ℕ
group_place groups name = position (λ group. is_same_fit name.fit group.fit) groups

abbrev pub resolved_column : List ResolvedName → ResolvedName → ResolvedOutput
resolved_column groups name = resolved_output.Column name (group_place groups name)

-- an output: a column, or an aggregate over columns
abbrev pub output_of : List TableShape → List ℕ → List ResolvedName → Output → ResolvedOutput
output_of c from groups (output.Column name) = resolved_column groups (resolved c from name)
output_of c from groups (output.Aggregate a) = resolved_output.Aggregate (mapped_aggregate (resolved c from) a)

abbrev pub resolved_groups : List TableShape → List ℕ → Select → List ResolvedName
resolved_groups c from s = map (resolved c from) s.groups

-- the select list, WHERE, GROUP BY and HAVING, each name resolved
abbrev pub resolved_select : List TableShape → List ℕ → Select → Resolved
resolved_select c from s = record {
  outputs = map (λ item. output_of c from (resolved_groups c from s) item.output) s.items;
  condition = mapped_filter (resolved c from) s.condition;
  groups = resolved_groups c from s;
  having = mapped_filter (output_of c from (resolved_groups c from s)) s.having;
}
