use Rattle.std.proofs.Common.{◌≡◌, ◌≤◌, ◌+◌, drop, length}
use Rattle.ssb_bind.specs.Bound.{aggregates_of}
use Rattle.ssb_bind.proofs.limits.item_aggregates.Given as goal

-- aggregates are no more than the outputs so far
abbrev pub invariant-loop-output : goal.invariant-loop-output
invariant-loop-output l = (l.count ≤ l.output-index) × (l.count + length (aggregates_of (drop l.output-index l.outputs)) ≡ length (aggregates_of l.outputs))
