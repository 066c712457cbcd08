use Rattle.std.proofs.Common.{◌∙◌, ap}
use Rattle.ssb_cells.specs.Stored.{count_in}
use Rattle.ssb_cells.proofs.LentFacts.{lent-numbers}
use Rattle.ssb_cells.proofs.column.Column.numbers.Goals as goal

pub returns : goal.returns
returns c = rw (← c.self.view_is, c.as_slice.ensures, c.numbers_in.ensures) (lent-numbers c.numbers_in.result.now c.self.inside.nulls (c.self.invariant.parts ∙ ap count_in c.numbers_in.ensures))
