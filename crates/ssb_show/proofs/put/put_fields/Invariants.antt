use Rattle.std.proofs.Common.{drop}
use Rattle.ssb_rows.specs.Writing.{desk}
use Rattle.ssb_rows.proofs.Going.{Going}
use Rattle.ssb_show.specs.Columns.{fields_from}
use Rattle.ssb_show.specs.Pieces.{line_of}
use Rattle.ssb_show.proofs.put.put_fields.Given as goal

abbrev pub invariant-loop-place : goal.invariant-loop-place
invariant-loop-place g l =
    Going (desk (g.W.Sink.taken l.fn.out) l.fn.page (g.W.Sink.failures l.fn.out) (g.W.Sink.contents l.fn.out)) (desk (g.W.Sink.taken l.out) l.page (g.W.Sink.failures l.out) (g.W.Sink.contents l.out))
    (fields_from l.widths 0 (line_of l.fields)) (fields_from l.widths l.place (drop l.place (line_of l.fields)))
