-- What a line of the benchmark's tables says: for the contracts inside this crate.
-- Source: own.
use Rattle.std.specs.Prelude.{ℕ, Bool, List}
use Rattle.std.specs.Str.{str_to_ascii_lowercase}
use Rattle.ssb_terms.specs.Names.{is_name}
use Rattle.ssb_catalog.specs.Shapes.{TableShape}
use Rattle.ssb_catalog.specs.declared.benchmark.Line.{Line}
use Rattle.ssb_catalog.specs.declared.catalog.ColumnDef.{ColumnDef}

unfoldable pub column_of : Line → ColumnDef
column_of line = record { name = str_to_ascii_lowercase line.0.now; rule = line.1 }

abbrev pub is_named : Line → Bool
is_named line = is_name line.0.now

abbrev pub table_named : List ℕ → List ColumnDef → TableShape
table_named name columns = record { name = str_to_ascii_lowercase name; columns = columns }
