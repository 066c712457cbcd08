use Rattle.std.proofs.Common.{◌≡◌, length}
use Rattle.ssb_groups.proofs.groups.no_totals.Given as goal

abbrev pub invariant-loop : goal.invariant-loop
invariant-loop l = length l.totals.items ≡ l.counter
