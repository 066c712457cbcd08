-- Conditions, expressions and aggregates with a column in the place of each name: the same trees.
-- Source: SQL-92, 7.9 <query specification>, cut down to the language.
use Rattle.std.specs.Prelude.{List, [], Option, Some, None}
use Rattle.std.specs.List.{filter_map}
use Rattle.ssb_trees.specs.Conditions.{Filter, mapped_filter, operands}
use Rattle.ssb_trees.specs.Expressions.{mapped_aggregate}
use Rattle.ssb_trees.specs.declared.aggregate.Aggregate.{Aggregate}
use Rattle.ssb_trees.specs.declared.operand.Operand.{Operand}
use Rattle.ssb_trees.specs.declared.operand.Operand.TheVariants as operand
use Rattle.ssb_query.specs.declared.column.BoundColumn.{BoundColumn}
use Rattle.ssb_bind.specs.Columns.{the_one}
use Rattle.ssb_bind.specs.declared.resolved.ResolvedName.{ResolvedName}
use Rattle.ssb_bind.specs.declared.resolved.ResolvedOutput.{ResolvedOutput}
use Rattle.ssb_bind.specs.declared.resolved.ResolvedOutput.TheVariants as output

-- The column that a name stands for. Each name of a query fits one alone; what stands here for others is of no matter.
abbrev pub the_column : ResolvedName → BoundColumn
the_column name = the_one name.fit (record { table = 0; column = 0 })

abbrev pub bound_where : Option (Filter ResolvedName) → Option (Filter BoundColumn)
bound_where = mapped_filter the_column

abbrev pub bound_aggregate : Aggregate ResolvedName → Aggregate BoundColumn
bound_aggregate = mapped_aggregate the_column

abbrev pub aggregate_of : ResolvedOutput → Option (Aggregate BoundColumn)
aggregate_of (output.Column name group) = None
aggregate_of (output.Aggregate a) = Some (bound_aggregate a)

-- the aggregates of the select list, in the order of the text
abbrev pub aggregates_of : List ResolvedOutput → List (Aggregate BoundColumn)
aggregates_of outputs = filter_map aggregate_of outputs

abbrev pub operand_aggregate : Operand ResolvedOutput → Option (Aggregate BoundColumn)
operand_aggregate (operand.Column o) = aggregate_of o
operand_aggregate (operand.Literal l) = None

-- those of HAVING
abbrev pub having_aggregates : Option (Filter ResolvedOutput) → List (Aggregate BoundColumn)
having_aggregates None = []
having_aggregates (Some h) = filter_map operand_aggregate (operands (Operand ResolvedOutput) h)
