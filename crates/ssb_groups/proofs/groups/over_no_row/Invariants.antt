use Rattle.std.proofs.Common.{◌≡◌, ◌++◌, [], drop, map}
use Rattle.ssb_groups.specs.Aggregates.{agg}
use Rattle.ssb_groups.specs.Totals.{total_cell}
use Rattle.ssb_groups.proofs.groups.over_no_row.Given as goal

abbrev pub invariant-loop-aggregate : goal.invariant-loop-aggregate
invariant-loop-aggregate l = map total_cell l.values.items ++ map (λ a. agg a []) (drop l.aggregate-index l.aggregates) ≡ map (λ a. agg a []) l.aggregates
