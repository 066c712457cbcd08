use Rattle.std.proofs.Common.{◌≡◌, ℤ, ◌≤◌, ◌-◌, false, length, take}
use Rattle.std.specs.HashSet.{contains}
use Rattle.std.specs.Ordering.{int_eq}
use Rattle.ssb_sets.specs.NumberSets.{said_by}
use Rattle.ssb_sets.proofs.choice.points.Given as goal

abbrev pub invariant-loop-passed : goal.invariant-loop-passed
invariant-loop-passed l =
    record {
      within : l.passed ≤ length l.cuts;
      says : (n : ℤ) → contains int_eq l.numbers n ≡ said_by false (take l.passed l.cuts) n;
    }

abbrev pub decreases-loop-passed : goal.decreases-loop-passed
decreases-loop-passed l = length l.cuts - l.passed
