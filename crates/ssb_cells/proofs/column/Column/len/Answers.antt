use Rattle.std.proofs.Common.{◌∙◌, sym}
use Rattle.ssb_cells.proofs.ColumnFacts.{cells-len}
use Rattle.ssb_cells.proofs.column.Column.len.Goals as goal

pub returns : goal.returns
returns c = rw (← c.self.view_is) (c.len.ensures ∙ sym (cells-len c.self.inside.stored c.self.inside.nulls c.self.invariant.parts))
