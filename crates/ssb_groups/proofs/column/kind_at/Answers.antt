use Rattle.std.proofs.Common.{◌∙◌, ◌<◌, length, slice_get, ap, subst, sym}
use Rattle.ssb_cells.specs.Tables.{Columns}
use Rattle.ssb_groups.specs.Keys.{kind_in}
use Rattle.ssb_groups.proofs.ColumnFacts.{table-here}
use Rattle.ssb_groups.proofs.column.kind_at.Goals as goal

pub column-requires : goal.column-requires
column-requires c =
    let r = c.args.column in
    subst (λ (t : Columns). r.column < length t) (table-here c.args.tables.now r.table c.index-tables-column.result c.requires.table c.index-tables-column.is) c.requires.column

pub returns : goal.returns
returns c =
    let r = c.args.column in
    let here = table-here c.args.tables.now r.table c.index-tables-column.result c.requires.table c.index-tables-column.is in
    c.kind.ensures ∙ sym (ap (λ t. kind_in (slice_get t r.column)) here ∙ ap kind_in c.column.ensures.column)
