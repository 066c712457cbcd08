use Rattle.ssb_lanes.proofs.LaneFacts.{IsAdding}
use Rattle.ssb_lanes.proofs.lanes.add_all.Given as goal

abbrev pub invariant-loop-at : goal.invariant-loop-at
invariant-loop-at g l = IsAdding g.S.Source l.fn.assembly l.assembly l.fn.lanes l.lanes l.at
