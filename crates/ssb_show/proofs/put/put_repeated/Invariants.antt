use Rattle.std.proofs.Common.{◌-◌, replicate}
use Rattle.ssb_rows.specs.Writing.{desk}
use Rattle.ssb_rows.proofs.Going.{Going}
use Rattle.ssb_show.proofs.put.put_repeated.Given as goal

abbrev pub invariant-loop-done : goal.invariant-loop-done
invariant-loop-done g l =
    Going (desk (g.W.Sink.taken l.fn.out) l.fn.page (g.W.Sink.failures l.fn.out) (g.W.Sink.contents l.fn.out)) (desk (g.W.Sink.taken l.out) l.page (g.W.Sink.failures l.out) (g.W.Sink.contents l.out))
    (replicate l.count l.byte) (replicate (l.count - l._done) l.byte)
