use Rattle.std.proofs.Common.{◌<◌, ◌≡◌, Some, length, slice_get, subst, sym}
use Rattle.ssb_cells.specs.Codes.{texts_of}
use Rattle.ssb_cells.specs.Tables.{Columns}
use Rattle.ssb_groups.specs.Refs.{IsColumn, IsSomeColumn}
use Rattle.ssb_groups.proofs.ColumnFacts.{table-here, values-here}
use Rattle.ssb_groups.proofs.column.text_in.Goals as goal

pub spelt_text-requires : goal.spelt_text-requires
spelt_text-requires c =
    let r = c.in-Some.column in
    let at : IsColumn c.args.tables.now r = subst (IsSomeColumn c.args.tables.now) c.in-Some.is c.requires.column in
    let table = table-here c.args.tables.now r.table c.index-tables-column.result at.table c.index-tables-column.is in
    subst (λ vs. c.args.code < length (texts_of vs)) (values-here c.args.tables.now c.args.column r c.index-tables-column.result c.column.result.now c.in-Some.is table c.column.ensures.column) c.requires.code

pub column-requires : goal.column-requires
column-requires c =
    let r = c.in-Some.column in
    let at : IsColumn c.args.tables.now r = subst (IsSomeColumn c.args.tables.now) c.in-Some.is c.requires.column in
    let table = table-here c.args.tables.now r.table c.index-tables-column.result at.table c.index-tables-column.is in
    subst (λ (t : Columns). r.column < length t) table at.column

pub returns : goal.returns
returns c =
    let r = c.in-Some.column in
    let at : IsColumn c.args.tables.now r = subst (IsSomeColumn c.args.tables.now) c.in-Some.is c.requires.column in
    let table = table-here c.args.tables.now r.table c.index-tables-column.result at.table c.index-tables-column.is in
    subst (λ vs. slice_get (texts_of vs) c.args.code ≡ Some c.spelt_text.result.now) (sym (values-here c.args.tables.now c.args.column r c.index-tables-column.result c.column.result.now c.in-Some.is table c.column.ensures.column)) c.spelt_text.ensures
