use Rattle.std.proofs.Common.{◌≡◌, ℕ, ◌<◌, ◌≤ℤ◌, ◌+ℤ◌, ◌-ℤ◌, false, get_or, length, pos, unsigned_abs}
use Rattle.ssb_sets.specs.NumberSets.{has}
use Rattle.ssb_sets.proofs.set.NumberSet.flags.Given as goal

abbrev pub invariant-runs : goal.invariant-runs
invariant-runs l =
    record {
      behind : l.from ≤ℤ l.start;
      within : l.start ≤ℤ l.to;
      count : l.from +ℤ pos (length l.flags.items) ≡ l.start;
      each : (k : ℕ) → k < length l.flags.items → get_or l.flags.items k false ≡ has l.self (l.from +ℤ pos k);
    }

abbrev pub decreases-runs : goal.decreases-runs
decreases-runs l = unsigned_abs (l.to -ℤ l.start)
