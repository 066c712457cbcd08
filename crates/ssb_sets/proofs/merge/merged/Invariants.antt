use Rattle.std.proofs.Common.{◌+◌, ◌-◌, length}
use Rattle.ssb_sets.proofs.MergeFacts.{Merging}
use Rattle.ssb_sets.proofs.merge.merged.Given as goal

abbrev pub invariant-cuts : goal.invariant-cuts
invariant-cuts l = Merging l.by l.first_one l.ones l.first_other l.others l.one l.other l.said l.last l.made

abbrev pub decreases-cuts : goal.decreases-cuts
decreases-cuts l = (length l.ones - l.one.passed) + (length l.others - l.other.passed)
