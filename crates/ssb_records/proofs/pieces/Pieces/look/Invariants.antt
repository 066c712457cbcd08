use Rattle.ssb_records.specs.Pieces.{turns_left}
use Rattle.ssb_records.proofs.Looking.{Looks}
use Rattle.ssb_records.proofs.pieces.Pieces.look.Given as goal

abbrev pub invariant-loop-self : goal.invariant-loop-self
invariant-loop-self g l = Looks g.S.Source.given g.S.Source.failures g.S.Source.ends g.S.Source.whole l.fn.self l.self l.fn.source l.source

abbrev pub decreases-loop-self : goal.decreases-loop-self
decreases-loop-self g l = turns_left l.self
