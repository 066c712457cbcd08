use Rattle.std.proofs.Common.{◌≡◌, ◌++◌, drop, map}
use Rattle.ssb_cells.specs.Values.{cell_of}
use Rattle.ssb_keys.specs.Domains.{cells}
use Rattle.ssb_groups.specs.Keys.{key_columns, spelt}
use Rattle.ssb_groups.proofs.ValueDomains.{IsLeft}
use Rattle.ssb_groups.proofs.columns.Columns.spell_number.Given as goal

abbrev pub invariant-loop-at : goal.invariant-loop-at
invariant-loop-at l =
    (map cell_of l.values.items ++ spelt (drop l.at (key_columns l.self)) (cells (drop l.at l.domains) l.left) ≡ spelt (key_columns l.self) (cells l.domains l.number))
    × IsLeft (key_columns l.self) l.domains l.at l.left
