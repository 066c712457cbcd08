-- The columns of a step.
use Rattle.std.proofs.Common.{◌≡◌, List}
use Rattle.ssb_trees.specs.Expressions.{columns, columns_layer, step_columns, step_columns_layer}
use Rattle.ssb_trees.specs.declared.expr.Expr.TheFolds.{fold_out-Step}
use Rattle.ssb_trees.specs.declared.expr.Step.{Step}

module _ (C : Type 0) where
  pub columns_of_step : (s : Step C) → step_columns C s ≡ columns C s.term
  columns_of_step = fold_out-Step C (List C) (List C) (columns_layer C) (step_columns_layer C)
