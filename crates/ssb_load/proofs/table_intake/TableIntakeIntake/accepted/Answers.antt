use Rattle.std.proofs.Common.{arith}
use Rattle.ssb_load.proofs.table_intake.TableIntakeIntake.accepted.Goals as goal

pub returns-clause-room : goal.returns-clause-room
returns-clause-room c = let few = c.requires.1.few in omega (arith, few)
