use Rattle.std.proofs.Common.{◌≡◌, ◌≤◌, ◌-◌, filter, map, take}
use Rattle.std.specs.List.{range_with_len}
use Rattle.ssb_sets.specs.Passing.{passes_at}
use Rattle.ssb_sets.proofs.kernel.first_rows.Given as goal

abbrev pub invariant-loop-i : goal.invariant-loop-i
invariant-loop-i g l =
    record {
      front : take l.left l.rows ≡ filter (λ r. passes_at (g.A.Asks.says l.asked) (map g.T.Number.wide l.numbers) (r - l.first)) (range_with_len l.first l.i);
      behind : l.left ≤ l.i;
    }
