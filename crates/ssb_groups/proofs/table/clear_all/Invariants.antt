use Rattle.std.proofs.Common.{◌≡◌, ◌<◌, ℕ, [], get_or, length}
use Rattle.ssb_groups.specs.Tallies.{lists}
use Rattle.ssb_groups.proofs.table.clear_all.Given as goal

abbrev pub invariant-loop-at : goal.invariant-loop-at
invariant-loop-at l =
    record {
      many : length l.tallies ≡ length l.initial.tallies;
      none : (i : ℕ) → i < l.at → get_or (lists l.tallies) i [] ≡ [];
    }
