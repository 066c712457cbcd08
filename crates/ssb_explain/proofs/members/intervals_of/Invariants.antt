use Rattle.std.proofs.Common.{◌≡◌, ◌++◌, None, drop}
use Rattle.ssb_explain.specs.Members.{intervals_from}
use Rattle.ssb_explain.proofs.members.intervals_of.Given as goal

abbrev pub invariant-loop-at : goal.invariant-loop-at
invariant-loop-at l = l.intervals.items ++ intervals_from l.has l.low (drop l.at l.cuts) ≡ intervals_from l.initial.has None l.cuts
