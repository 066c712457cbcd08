use Rattle.ssb_sql.specs.declared.named.ColumnName.{ColumnName}
use Rattle.ssb_trees.proofs.Taken.{all_taken}
use Rattle.ssb_trees.specs.Expressions.{aggregate_columns}
use Rattle.ssb_bind.proofs.resolve_output.OutputScopeLeavesOutputResolvedOutput.leaf.Goals as goal

pub mapped-requires : goal.mapped-requires
mapped-requires c = all_taken (aggregate_columns c.in-Aggregate.aggregate)
