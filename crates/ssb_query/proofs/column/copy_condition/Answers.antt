use Rattle.std.proofs.Common.{◌≡◌, IfOk, subst}
use Rattle.ssb_trees.proofs.Mapping.{mapped_same_columns}
use Rattle.ssb_trees.proofs.Taken.{all_taken}
use Rattle.ssb_trees.specs.Conditions.{condition_columns}
use Rattle.ssb_query.proofs.column.copy_condition.Goals as goal

pub mapped_columns-requires : goal.mapped_columns-requires
mapped_columns-requires c = all_taken (condition_columns c.args.condition.now)

pub returns : goal.returns
returns c = subst (λ y. IfOk c.mapped_columns.result (λ x. x ≡ y)) (mapped_same_columns _ c.args.condition.now) c.mapped_columns.ensures
