use Rattle.std.proofs.Common.{◌<◌, ap, arith, length, subst}
use Rattle.std.proofs.lemmas.Option.{unwrap_or-slice_get}
use Rattle.ssb_cells.specs.Tables.{rows_in, Columns}
use Rattle.ssb_groups.proofs.ColumnFacts.{table-here}
use Rattle.ssb_groups.proofs.column.cell_in.Goals as goal

pub column_cell-requires : goal.column_cell-requires
column_cell-requires c =
    let r = c.args.column in
    let table = ap rows_in (table-here c.args.tables.now r.table c.index-tables-column.result c.requires.column.table c.index-tables-column.is) in
    let row = unwrap_or-slice_get c.args.rows.now r.place 0 in
    let inside = c.requires.row.row in
    let long = c.column.ensures.long in
    omega (arith, inside, table, row, long)

pub column-requires : goal.column-requires
column-requires c =
    let r = c.args.column in
    subst (λ (t : Columns). r.column < length t) (table-here c.args.tables.now r.table c.index-tables-column.result c.requires.column.table c.index-tables-column.is) c.requires.column.column
