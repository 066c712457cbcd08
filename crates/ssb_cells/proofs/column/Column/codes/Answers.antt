use Rattle.std.proofs.Common.{◌∙◌, ap}
use Rattle.ssb_cells.specs.Stored.{count_in}
use Rattle.ssb_cells.proofs.LentFacts.{lent-codes}
use Rattle.ssb_cells.proofs.column.Column.codes.Goals as goal

pub returns : goal.returns
returns c =
    let is = rw c.texts_in.ensures at c.self.invariant.texts in
    rw (← c.self.view_is, c.as_slice.ensures, c.texts_in.ensures) (lent-codes c.texts_in.result.now c.self.inside.nulls (c.self.invariant.parts ∙ ap count_in c.texts_in.ensures) is)
