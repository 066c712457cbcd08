use Rattle.std.proofs.Common.{◌≡◌, map, take}
use Rattle.ssb_groups.specs.Joining.{joining_of}
use Rattle.ssb_groups.proofs.columns.joinings.Given as goal

abbrev pub invariant-loop-at : goal.invariant-loop-at
invariant-loop-at l = l.joinings.items ≡ map (joining_of l.job) (take l.at l.aggregates)
