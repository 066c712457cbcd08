use Rattle.std.proofs.Common.{◌≡◌, ◌++◌, drop, map}
use Rattle.ssb_plan.specs.Inputs as spec
use Rattle.ssb_plan.proofs.input.inputs_of.Given as goal

abbrev pub invariant-loop-aggregate : goal.invariant-loop-aggregate
invariant-loop-aggregate l = l.inputs.items ++ map (spec.input_of l.query) (drop l.aggregate-index l.aggregate-items) ≡ map (spec.input_of l.query) l.aggregate-items
