use Rattle.ssb_lanes.proofs.BerthMoves.{forks}
use Rattle.ssb_lanes.proofs.berth.another.Goals as goal

pub another-requires-clause-rule : goal.another-requires-clause-rule
another-requires-clause-rule g c = forks g.S.Source _ _ c.requires.laid.0 c.requires.laid.1
