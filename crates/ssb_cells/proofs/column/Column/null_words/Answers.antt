use Rattle.ssb_cells.proofs.LentFacts.{lent-nulls}
use Rattle.ssb_cells.proofs.column.Column.null_words.Goals as goal

pub returns : goal.returns
returns c = rw (← c.self.view_is) (lent-nulls c.self.inside.stored c.self.inside.nulls c.words.result.now c.self.invariant.parts c.words.ensures)
