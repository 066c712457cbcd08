use Rattle.std.proofs.Common.{◌≡◌, [], ℕ, get_or, length}
use Rattle.ssb_groups.specs.Tallies.{lists}
use Rattle.ssb_groups.proofs.table.no_tallies.Given as goal

abbrev pub invariant-loop : goal.invariant-loop
invariant-loop l =
    record {
      many : length l.tallies.items ≡ l.counter;
      none : (i : ℕ) → get_or (lists l.tallies.items) i [] ≡ [];
    }
