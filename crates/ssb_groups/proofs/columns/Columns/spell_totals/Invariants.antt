use Rattle.std.proofs.Common.{◌≡◌, ◌++◌, drop, map}
use Rattle.ssb_groups.specs.Keys.{spelt}
use Rattle.ssb_groups.specs.Tallies.{lists, total_columns, totals_at, totals_in}
use Rattle.ssb_groups.specs.Totals.{total_cell}
use Rattle.ssb_groups.proofs.columns.Columns.spell_totals.Given as goal

abbrev pub invariant-loop-at : goal.invariant-loop-at
invariant-loop-at l = map total_cell l.values.items ++ spelt (drop l.at (total_columns l.self)) (drop l.at (totals_at (lists l.tallies) l.place)) ≡ totals_in l.self (totals_at (lists l.tallies) l.place)
