use Rattle.std.proofs.Common.{◌≡◌, length}
use Rattle.ssb_sql.specs.Steps.{after, Parser, Reads, Shrinks, chained_at, more_at}
use Rattle.ssb_sql.proofs.chain.chain.Given as goal

abbrev pub invariant-loop-start : goal.invariant-loop-start
invariant-loop-start g l =
    goal.F-IsAlwaysCallable g l.piece × ((p : Parser _) → Shrinks (after l.sign) p → Reads (goal.F-post g l.piece) p → more_at (after l.sign) p l.all l.rest ≡ chained_at l.sign p l.fn.tokens)

abbrev pub decreases-loop-start : goal.decreases-loop-start
decreases-loop-start g l = length l.rest
