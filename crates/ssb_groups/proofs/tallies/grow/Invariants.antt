use Rattle.std.proofs.Common.{◌<◌, ◌≤◌, [], ℕ, get_or, length}
use Rattle.ssb_groups.specs.Places.{AreGrown}
use Rattle.ssb_groups.specs.Tallies.{lists}
use Rattle.ssb_groups.proofs.tallies.grow.Given as goal

abbrev pub invariant-loop-at : goal.invariant-loop-at
invariant-loop-at l =
    record {
      grown : AreGrown (lists l.initial.tallies) (lists l.tallies);
      long : (i : ℕ) → i < l.at → l.groups ≤ length (get_or (lists l.tallies) i []);
    }
