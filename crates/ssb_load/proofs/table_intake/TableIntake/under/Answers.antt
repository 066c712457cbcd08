use Rattle.std.proofs.Common.{arith}
use Rattle.std.proofs.lemmas.Grind.{common_steps}
use Rattle.ssb_load.proofs.table_intake.TableIntake.under.Goals as goal

pub returns-clause-subject : goal.returns-clause-subject
returns-clause-subject c = grind (arith, common_steps)
