use Rattle.ssb_lanes.proofs.BerthMoves.{begins}
use Rattle.ssb_lanes.proofs.berth.new_berth.Goals as goal

pub ruled-requires-clause-rule : goal.ruled-requires-clause-rule
ruled-requires-clause-rule g c = begins g.S.Source
