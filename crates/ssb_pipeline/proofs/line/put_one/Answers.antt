use Rattle.std.proofs.Common.{arith}
use Rattle.ssb_pipeline.proofs.Moves.{puts, full}
use Rattle.std.proofs.lemmas.Grind.{common_steps}
use Rattle.ssb_pipeline.proofs.line.put_one.Goals as goal

pub push_as-requires-clause-rule : goal.push_as-requires-clause-rule
push_as-requires-clause-rule g c = (puts _ _ _ _ c.requires.holds c.requires.opened c.requires.ran c.requires.own, full _ _ c.requires.holds)

pub returns-clause-view : goal.returns-clause-view
returns-clause-view g c = grind (arith, common_steps)
