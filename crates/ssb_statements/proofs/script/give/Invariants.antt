use Rattle.ssb_statements.proofs.Giving.{GivesAt}
use Rattle.ssb_statements.proofs.script.give.Given as goal

abbrev pub invariant-loop-at : goal.invariant-loop-at
invariant-loop-at l = GivesAt l.at l.bytes l.fn.position.all.items l.position.all.items l.fn.room l.room
