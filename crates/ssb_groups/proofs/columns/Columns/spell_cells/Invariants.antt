use Rattle.std.proofs.Common.{◌≡◌, ◌++◌, drop, map}
use Rattle.ssb_cells.specs.Values.{cell_of}
use Rattle.ssb_groups.specs.Keys.{key_columns, spelt}
use Rattle.ssb_groups.proofs.columns.Columns.spell_cells.Given as goal

abbrev pub invariant-loop-at : goal.invariant-loop-at
invariant-loop-at l = map cell_of l.values.items ++ spelt (drop l.at (key_columns l.self)) (drop l.at l.cells) ≡ spelt (key_columns l.self) l.cells
