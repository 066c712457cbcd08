use Rattle.std.proofs.Common.{ℕ, List, length}
use Rattle.ssb_rows.specs.Taking.{GrewAlike}
use Rattle.ssb_rows.proofs.Written.{Written}
use Rattle.ssb_rows.proofs.sink.write_all.Given as goal

abbrev pub invariant-loop-rest : goal.invariant-loop-rest
invariant-loop-rest g l = (gone : List ℕ) × Written (g.W.Sink.taken l.fn.out) (g.W.Sink.taken l.out) gone l.rest l.text (g.W.Sink.failures l.fn.out) (g.W.Sink.failures l.out)
    × GrewAlike (g.W.Sink.taken l.fn.out) (g.W.Sink.taken l.out) (g.W.Sink.contents l.fn.out) (g.W.Sink.contents l.out)

abbrev pub decreases-loop-rest : goal.decreases-loop-rest
decreases-loop-rest g l = length l.rest
