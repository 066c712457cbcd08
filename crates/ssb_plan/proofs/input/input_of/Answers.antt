use Rattle.ssb_trees.proofs.Taken.{all_taken}
use Rattle.ssb_trees.specs.Expressions.{columns}
use Rattle.ssb_plan.proofs.input.input_of.Goals as goal

pub mapped-requires : goal.mapped-requires
mapped-requires c = all_taken (columns _ c.in-Of.expr)
