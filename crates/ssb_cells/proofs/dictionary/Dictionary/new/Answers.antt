use Rattle.std.proofs.Common.{arith}
use Rattle.ssb_cells.proofs.CodeFacts.{no-text}
use Rattle.ssb_cells.proofs.dictionary.Dictionary.new.Goals as goal

pub invariant_of-result : goal.invariant_of-result
invariant_of-result c = record { counted = rw c.new.ensures.empty (omega arith); distinct = rw c.new.ensures.empty no-text }
