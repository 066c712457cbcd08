use Rattle.ssb_lanes.proofs.PartReading.{IsReadingPart}
use Rattle.ssb_lanes.proofs.part.Part.read.Given as goal

abbrev pub invariant-loop : goal.invariant-loop
invariant-loop g l = IsReadingPart g.S.Source.given g.S.Source.failures g.S.Source.ends g.S.Source.whole l.pieces l.fn.source l.source l.fn.self l.self
