use Rattle.std.proofs.Common.{◌≡◌, string_bytes, take}
use Rattle.std.specs.List.{flat_map}
use Rattle.ssb_files.specs.Listing.{column_line}
use Rattle.ssb_files.proofs.listing.table_lines.Given as goal

abbrev pub invariant-loop-column : goal.invariant-loop-column
invariant-loop-column l = string_bytes l.text ≡ flat_map (column_line l.table.name) (take l.column-index l.table.columns)
