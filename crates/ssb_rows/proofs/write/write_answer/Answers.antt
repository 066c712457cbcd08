use Rattle.std.proofs.Common.{arith}
use Rattle.ssb_rows.proofs.write.write_answer.Goals as goal

pub returns-in-Ok-clause-wrote : goal.returns-in-Ok-clause-wrote
returns-in-Ok-clause-wrote g c = let w = c.in-Ok.ensures.wrote in grind (arith, w)

pub returns-in-Err-clause-began : goal.returns-in-Err-clause-began
returns-in-Err-clause-began g c = rw c.rows.ensures at c.in-Err.ensures.began
