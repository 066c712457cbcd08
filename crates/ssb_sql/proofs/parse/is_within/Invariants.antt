use Rattle.ssb_sql.proofs.Depth.{Left}
use Rattle.ssb_sql.proofs.parse.is_within.Given as goal

abbrev pub invariant-loop-token : goal.invariant-loop-token
invariant-loop-token l = Left l.most l.tokens l.room l.token-index
