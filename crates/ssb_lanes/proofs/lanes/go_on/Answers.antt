use Rattle.ssb_lanes.proofs.SkippingFacts.{stops-here, stops-later}
use Rattle.ssb_lanes.proofs.lanes.go_on.Goals as goal

pub returns-then-is_read-clause-stops : goal.returns-then-is_read-clause-stops
returns-then-is_read-clause-stops g c subject stops = stops-here g.S.Source subject c.args.lanes.now c.args.stop (c.is_read.ensures.read c.if-is_read.true) stops

pub returns-clause-stops : goal.returns-clause-stops
returns-clause-stops g c subject stops =
    let k = c.skip_rest.ensures in
    stops-later g.S.Source subject c.args.lanes.now c.skip_rest.new.lanes c.args.stop c.skip_rest.result (c.is_read.ensures.other c.if-is_read.false) stops k.inside k.met k.grows k.failed
