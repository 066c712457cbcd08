use Rattle.std.proofs.Common.{◌≡◌, ◌<◌, ℕ, [], Some, get_or, length, map, slice_get, take}
use Rattle.std.specs.List.{list_any}
use Rattle.ssb_query.specs.declared.column.BoundColumn.{BoundColumn}
use Rattle.ssb_trees.specs.declared.aggregate.Aggregate.{Aggregate}
use Rattle.ssb_groups.specs.Gathering.{AreTaken, facts_where, over_at}
use Rattle.ssb_groups.specs.Stands.{least}
use Rattle.ssb_groups.specs.Tallies.{block_cells}
use Rattle.ssb_groups.proofs.gather.gather.Given as goal

abbrev pub invariant-loop-at : goal.invariant-loop-at
invariant-loop-at l =
    record {
      least : l.found ≡ least (facts_where l.job (λ rows. list_any (λ a. over_at l.job a rows) (take l.at l.job.query.aggregates)) l.block);
      taken : (i : ℕ) (a : Aggregate BoundColumn) → i < l.at → slice_get l.job.query.aggregates i ≡ Some a → AreTaken l.job a l.block (get_or (map block_cells l.totals) i []);
      many : length l.totals ≡ length l.initial.totals;
    }
