use Rattle.std.proofs.Common.{◌≡◌, drop, map}
use Rattle.std.specs.List.{list_any}
use Rattle.ssb_groups.specs.Totals.{total_cell}
use Rattle.ssb_rows.specs.Result.{is_beyond}
use Rattle.ssb_rows.proofs.rows_of.has_beyond.Given as goal

-- the rest decides what the whole decides
abbrev pub invariant-loop-total : goal.invariant-loop-total
invariant-loop-total l = list_any is_beyond (map total_cell (drop l.total-index l.totals)) ≡ list_any is_beyond (map total_cell l.totals)
