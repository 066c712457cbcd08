use Rattle.ssb_statements.proofs.Steps.{StandsAt}
use Rattle.ssb_statements.proofs.cutter.Cutter.take_all.Given as goal

abbrev pub invariant-loop-i : goal.invariant-loop-i
invariant-loop-i l = StandsAt l.i l.fn.self.boundary l.bytes l.self.boundary
