use Rattle.ssb_trees.proofs.Taken.{in_each}
use Rattle.ssb_trees.specs.Conditions.{operand_columns, operands}
use Rattle.ssb_trees.proofs.operand.mapped_columns.Goals as goal

pub mapped-requires : goal.mapped-requires
mapped-requires g c = in_each g.M.Leaves.taken operand_columns (operands _ c.args.condition.now) c.requires
