use Rattle.std.proofs.Common.{◌≡◌, find, drop, map}
use Rattle.ssb_trees.specs.Expressions.{columns, step_columns}
use Rattle.ssb_trees.specs.Lists.{concat}
use Rattle.ssb_trees.proofs.find_column.+expr.Given as goal

abbrev pub invariant-in_steps-loop-step : goal.invariant-in_steps-loop-step
invariant-in_steps-loop-step g l = find (g.T.Test.passed l.test) (concat (map (step_columns _) (drop l.step-index l.steps))) ≡ find (g.T.Test.passed l.test) (concat (map (step_columns _) l.steps))

abbrev pub invariant-in_factors-loop-factor : goal.invariant-in_factors-loop-factor
invariant-in_factors-loop-factor g l = find (g.T.Test.passed l.test) (concat (map (columns _) (drop l.factor-index l.factors))) ≡ find (g.T.Test.passed l.test) (concat (map (columns _) l.factors))
