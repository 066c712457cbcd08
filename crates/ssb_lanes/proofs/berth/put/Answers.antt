use Rattle.ssb_lanes.proofs.BerthMoves.{puts}
use Rattle.ssb_lanes.proofs.berth.put.Goals as goal

pub push_as-requires-clause-rule : goal.push_as-requires-clause-rule
push_as-requires-clause-rule g c = (puts g.S.Source _ _ _ _ c.loop.invariant.known c.loop.invariant.kept, λ items views rule at. tt)
