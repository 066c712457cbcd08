use Rattle.ssb_lanes.proofs.SpanFacts.{one-size}
use Rattle.ssb_lanes.proofs.sections.undivided.Goals as goal

pub returns-clause-divided : goal.returns-clause-divided
returns-clause-divided g c = rw c.new.ensures.items (one-size _)
