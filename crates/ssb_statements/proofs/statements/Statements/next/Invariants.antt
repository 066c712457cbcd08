use Rattle.ssb_statements.proofs.Looking.{Looks}
use Rattle.ssb_statements.proofs.statements.Statements.next.Given as goal

abbrev pub invariant-loop : goal.invariant-loop
invariant-loop g l = Looks l.fn.self l.counter l.self-inside.input l.self-inside.buffer
