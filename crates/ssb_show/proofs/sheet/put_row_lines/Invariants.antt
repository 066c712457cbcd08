use Rattle.std.proofs.Common.{length}
use Rattle.ssb_rows.specs.Writing.{desk}
use Rattle.ssb_rows.proofs.Going.{Going}
use Rattle.ssb_show.specs.Shown.{rows_of}
use Rattle.ssb_show.proofs.sheet.put_row_lines.Given as goal

abbrev pub invariant-loop-row : goal.invariant-loop-row
invariant-loop-row g l =
    Going (desk (g.W.Sink.taken l.fn.out) l.fn.page (g.W.Sink.failures l.fn.out) (g.W.Sink.contents l.fn.out)) (desk (g.W.Sink.taken l.out) l.page (g.W.Sink.failures l.out) (g.W.Sink.contents l.out))
    (rows_of l.widths l.fn.rows) (rows_of l.widths l.rest)

abbrev pub decreases-loop-row : goal.decreases-loop-row
decreases-loop-row g l = length l.rest
