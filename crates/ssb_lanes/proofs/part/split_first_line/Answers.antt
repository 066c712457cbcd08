use Rattle.std.proofs.Common.{arith}
use Rattle.ssb_records.proofs.LineFacts.{no-lf}
use Rattle.std.proofs.lemmas.Grind.{common_steps}
use Rattle.ssb_lanes.proofs.part.split_first_line.Goals as goal

pub returns-in-None-clause-none : goal.returns-in-None-clause-none
returns-in-None-clause-none c = no-lf _ (λ k lt e. c.in-None.ensures k (omega arith) lt e)

pub returns-in-Some-clause-line : goal.returns-in-Some-clause-line
returns-in-Some-clause-line c = grind (arith, common_steps)
