use Rattle.std.proofs.Common.{length}
use Rattle.ssb_rows.specs.Text.{text_of}
use Rattle.ssb_rows.specs.Writing.{desk}
use Rattle.ssb_rows.proofs.Going.{Going}
use Rattle.ssb_rows.proofs.write.put_rows.Given as goal

abbrev pub invariant-loop-row : goal.invariant-loop-row
invariant-loop-row g l =
    Going (desk (g.W.Sink.taken l.fn.out) l.fn.page (g.W.Sink.failures l.fn.out) (g.W.Sink.contents l.fn.out)) (desk (g.W.Sink.taken l.out) l.page (g.W.Sink.failures l.out) (g.W.Sink.contents l.out))
    (text_of l.fn.rows) (text_of l.rest)

abbrev pub decreases-loop-row : goal.decreases-loop-row
decreases-loop-row g l = length l.rest
