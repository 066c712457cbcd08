use Rattle.std.proofs.Common.{◌≡◌, ◌++◌, drop}
use Rattle.ssb_bind.specs.Bound.{aggregates_of}
use Rattle.ssb_bind.proofs.bind_select.aggregates_of.Given as goal

abbrev pub invariant-loop-output : goal.invariant-loop-output
invariant-loop-output l = l.all ++ aggregates_of (drop l.output-index l.outputs) ≡ aggregates_of l.outputs
