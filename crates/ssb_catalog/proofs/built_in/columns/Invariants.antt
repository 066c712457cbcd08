use Rattle.std.proofs.Common.{◌≡◌, ◌++◌, true, map, drop}
use Rattle.std.specs.List.{list_all}
use Rattle.ssb_catalog.specs.Listing.{column_of, is_named}
use Rattle.ssb_catalog.proofs.built_in.columns.Given as goal

abbrev pub invariant-loop-line : goal.invariant-loop-line
invariant-loop-line l =
    record {
      named : list_all is_named (drop l.line-index l.lines) ≡ true;
      rest : l.columns.items ++ map column_of (drop l.line-index l.lines) ≡ map column_of l.lines;
    }
