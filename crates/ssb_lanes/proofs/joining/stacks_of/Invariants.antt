use Rattle.std.proofs.Common.{◌≡◌, take, []}
use Rattle.ssb_load.specs.Rules.{columns_of}
use Rattle.ssb_lanes.proofs.joining.stacks_of.Given as goal

abbrev pub invariant-loop-k : goal.invariant-loop-k
invariant-loop-k l = l.stacks.items ≡ columns_of (take l.k l.rules) []
