use Rattle.std.proofs.Common.{◌≡◌, map, take}
use Rattle.ssb_trees.specs.Expressions.{mapped, mapped_step}
use Rattle.ssb_trees.proofs.map_expr.+expr.Given as goal

abbrev pub invariant-mapped_steps-loop-step : goal.invariant-mapped_steps-loop-step
invariant-mapped_steps-loop-step g l = l.all ≡ map (mapped_step _ _ (g.M.Leaves.given l.columns)) (take l.step-index l.steps)

abbrev pub invariant-mapped_factors-loop-factor : goal.invariant-mapped_factors-loop-factor
invariant-mapped_factors-loop-factor g l = l.all ≡ map (mapped _ _ (g.M.Leaves.given l.columns)) (take l.factor-index l.factors)
