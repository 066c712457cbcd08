use Rattle.ssb_lanes.proofs.SkippingFacts.{IsSkipping}
use Rattle.ssb_lanes.proofs.lanes.skip_rest.Given as goal

abbrev pub invariant-loop-at : goal.invariant-loop-at
invariant-loop-at g l = IsSkipping g.S.Source l.fn.lanes l.fn.from l.lanes l.at
