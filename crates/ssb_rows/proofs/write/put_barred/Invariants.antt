use Rattle.std.proofs.Common.{map, length}
use Rattle.ssb_rows.specs.Text.{cell_text}
use Rattle.ssb_rows.specs.Writing.{barred, desk}
use Rattle.ssb_rows.proofs.Going.{Going}
use Rattle.ssb_rows.proofs.write.put_barred.Given as goal

abbrev pub invariant-loop-field : goal.invariant-loop-field
invariant-loop-field g l =
    Going (desk (g.W.Sink.taken l.fn.out) l.fn.page (g.W.Sink.failures l.fn.out) (g.W.Sink.contents l.fn.out)) (desk (g.W.Sink.taken l.out) l.page (g.W.Sink.failures l.out) (g.W.Sink.contents l.out))
    (barred (map cell_text l.fn.fields)) (barred (map cell_text l.rest))

abbrev pub decreases-loop-field : goal.decreases-loop-field
decreases-loop-field g l = length l.rest
