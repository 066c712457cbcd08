use Rattle.ssb_lanes.proofs.BerthMoves.{takes}
use Rattle.ssb_lanes.proofs.berth.try_take.Goals as goal

pub pop_as-requires-clause-rule : goal.pop_as-requires-clause-rule
pop_as-requires-clause-rule g c = (takes g.S.Source _ _, λ items views rule at. tt)
