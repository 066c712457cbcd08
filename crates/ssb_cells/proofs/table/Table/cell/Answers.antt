use Rattle.std.proofs.Common.{arith}
use Rattle.ssb_cells.proofs.TableFacts.{cell-of}
use Rattle.ssb_cells.proofs.table.Table.cell.Goals as goal

pub get-requires : goal.get-requires
get-requires c =
    let row = c.requires.row in
    let long = c.column.ensures.long in
    omega (arith, row, long)

pub returns : goal.returns
returns c = cell-of c.args.self.now c.args.column c.args.row c.column.result.now _ c.column.ensures.column c.get.ensures
