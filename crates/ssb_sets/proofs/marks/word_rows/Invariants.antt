use Rattle.std.proofs.Common.{length, take}
use Rattle.ssb_sets.specs.Marks.{rows_of}
use Rattle.ssb_sets.proofs.MarkRows.{Writing}
use Rattle.ssb_sets.proofs.marks.word_rows.Given as goal

abbrev pub invariant-bits : goal.invariant-bits
invariant-bits l = Writing (take l.initial.left l.initial.rows) l.base l.initial.left l.initial.word l.word l.left l.rows

abbrev pub decreases-bits : goal.decreases-bits
decreases-bits l = length (rows_of l.word l.base)
