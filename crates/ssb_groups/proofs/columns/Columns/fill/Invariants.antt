use Rattle.std.proofs.Common.{◌≡◌, ◌++◌, drop, map}
use Rattle.ssb_groups.specs.Refs.{cell_in}
use Rattle.ssb_groups.proofs.columns.Columns.fill.Given as goal

abbrev pub invariant-loop-column : goal.invariant-loop-column
invariant-loop-column l = l.cells.items ++ map (cell_in l.tables l.rows) (drop l.column-index l.column-items) ≡ map (cell_in l.tables l.rows) l.column-items
