use Rattle.std.proofs.Common.{◌≡◌, take}
use Rattle.ssb_explain.specs.GroupCount as spec
use Rattle.ssb_explain.proofs.group_count.groups_by.Given as goal

abbrev pub invariant-loop-at : goal.invariant-loop-at
invariant-loop-at l = l.groups ≡ spec.groups_by l.tables l.rows (take l.at l.keys)
