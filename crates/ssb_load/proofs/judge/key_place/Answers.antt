use Rattle.std.proofs.Common.{arith}
use Rattle.std.proofs.lemmas.Grind.{common_steps}
use Rattle.ssb_load.proofs.judge.key_place.Goals as goal

pub loop-k-preserved : goal.loop-k-preserved
loop-k-preserved c = grind (arith, common_steps)

pub returns-then-is_key : goal.returns-then-is_key
returns-then-is_key c = grind (arith, common_steps)
