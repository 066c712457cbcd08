use Rattle.std.proofs.Common.{length, map, string_bytes}
use Rattle.ssb_rows.specs.Writing.{barred, desk}
use Rattle.ssb_rows.proofs.Going.{Going}
use Rattle.ssb_show.proofs.sheet.put_barred.Given as goal

abbrev pub invariant-loop-title : goal.invariant-loop-title
invariant-loop-title g l =
    Going (desk (g.W.Sink.taken l.fn.out) l.fn.page (g.W.Sink.failures l.fn.out) (g.W.Sink.contents l.fn.out)) (desk (g.W.Sink.taken l.out) l.page (g.W.Sink.failures l.out) (g.W.Sink.contents l.out))
    (barred (map string_bytes l.titles)) (barred (map string_bytes l.rest))

abbrev pub decreases-loop-title : goal.decreases-loop-title
decreases-loop-title g l = length l.rest
