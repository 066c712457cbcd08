use Rattle.ssb_statements.proofs.Giving.{LineAt}
use Rattle.ssb_statements.proofs.script.Script.take_line.Given as goal

abbrev pub invariant-loop : goal.invariant-loop
invariant-loop g l = LineAt g.S.Source l.counter l.fn.self l.self
