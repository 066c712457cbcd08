use Rattle.std.proofs.Common.{arith}
use Rattle.std.proofs.lemmas.Grind.{common_steps}
use Rattle.ssb_lanes.proofs.lanes.read_together.Goals as goal

pub add_up-requires-clause-read : goal.add_up-requires-clause-read
add_up-requires-clause-read g c = grind (arith, common_steps)
