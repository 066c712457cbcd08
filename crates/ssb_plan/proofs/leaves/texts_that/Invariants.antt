use Rattle.ssb_cells.specs.Codes.{texts_of}
use Rattle.ssb_conditions.specs.Holds.{literal_cell}
use Rattle.ssb_plan.proofs.Encodings.{TellsBelow}
use Rattle.ssb_plan.proofs.leaves.texts_that.Given as goal

abbrev pub invariant-loop-code : goal.invariant-loop-code
invariant-loop-code l = TellsBelow (texts_of l.column.values) l.op (literal_cell l.literal) l.set l.said l.code
