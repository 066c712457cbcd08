-- What a column under construction will keep.
-- For the contracts inside this crate.
use Rattle.ssb_cells.specs.declared.builder.ColumnBuilder.TheInside as builder
use Rattle.ssb_cells.specs.declared.builder.Storing.{Storing}
use Rattle.ssb_cells.specs.declared.builder.Storing.TheVariants as storing
use Rattle.ssb_cells.specs.declared.column.Column.TheInside as column
use Rattle.ssb_cells.specs.declared.column.Stored.{Stored}
use Rattle.ssb_cells.specs.declared.column.Stored.TheVariants as stored

-- what is stored once it is built
abbrev pub stored_in : Storing → Stored
stored_in (storing.Int n) = stored.Int n
stored_in (storing.Text t) = stored.Text (record { dictionary = t.dictionary; codes = t.codes })

-- the column that it becomes
abbrev pub inside_of : builder.Inside → column.Inside
inside_of b = record { nulls = b.nulls; stored = stored_in b.storing }
