use Rattle.std.proofs.Common.{◌≡◌, ◌++◌, drop, map}
use Rattle.ssb_plan.specs.Inputs as spec
use Rattle.ssb_plan.proofs.input.keys_of.Given as goal

abbrev pub invariant-loop-column : goal.invariant-loop-column
invariant-loop-column l = l.keys.items ++ map (spec.column_ref l.query) (drop l.column-index l.column-items) ≡ map (spec.column_ref l.query) l.column-items
