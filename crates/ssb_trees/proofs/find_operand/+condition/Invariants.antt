use Rattle.std.proofs.Common.{◌≡◌, find, drop, map}
use Rattle.ssb_trees.specs.Conditions.{operands}
use Rattle.ssb_trees.specs.Lists.{concat}
use Rattle.ssb_trees.proofs.find_operand.+condition.Given as goal

abbrev pub invariant-in_parts-loop-part : goal.invariant-in_parts-loop-part
invariant-in_parts-loop-part g l = find (g.T.Test.passed l.test) (concat (map (operands _) (drop l.part-index l.parts))) ≡ find (g.T.Test.passed l.test) (concat (map (operands _) l.parts))
