use Rattle.std.proofs.Common.{◌≤◌}
use Rattle.ssb_lanes.proofs.sections.divide.Given as goal

abbrev pub invariant-loop-sections : goal.invariant-loop-sections
invariant-loop-sections g l = l.sections ≤ l.count

abbrev pub decreases-loop-sections : goal.decreases-loop-sections
decreases-loop-sections g l = l.sections
