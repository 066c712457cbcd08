use Rattle.std.proofs.Common.{arith}
use Rattle.ssb_pipeline.proofs.Moves.{new-empty, opens}
use Rattle.std.proofs.lemmas.Grind.{common_steps}
use Rattle.ssb_pipeline.proofs.line.open_one.Goals as goal

pub push_as-requires-clause-rule : goal.push_as-requires-clause-rule
push_as-requires-clause-rule g c = (opens _ _ _ _ c.in_ok-line.ensures.3 c.requires, new-empty _ _ c.in_ok-line.ensures.3)

pub returns : goal.returns
returns g c = grind (arith, common_steps)
