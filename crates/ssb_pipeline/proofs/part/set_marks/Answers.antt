use Rattle.std.proofs.Common.{◌∙◌, ◌-◌, take, sym, ap}
use Rattle.std.specs.Prelude.{slice_set}
use Rattle.std.proofs.lemmas.List.{take_all}
use Rattle.ssb_pipeline.specs.Marks.{with_marks}
use Rattle.ssb_pipeline.specs.Tickets.{morsels_of}
use Rattle.ssb_pipeline.proofs.BatchFacts.{one-further}
use Rattle.ssb_pipeline.proofs.MarkFacts.{with-last}
use Rattle.ssb_pipeline.proofs.part.set_marks.Goals as goal

pub loop-place-preserved : goal.loop-place-preserved
loop-place-preserved c =
    let ts = c.args.tickets.now in
    let place = c.loop-place.place in
    let t = c.index-tickets-place.result in
    let first = c.args.first in
    let b = c.args.mark in
    let is = morsels_of (take place ts) in
    ap (λ marks. slice_set marks (c.morsel.result - first) b) c.loop-place.invariant ∙ ap (λ i. slice_set (with_marks b first c.args.marks.now is) (i - first) b) c.morsel.ensures
    ∙ sym (ap (with_marks b first c.args.marks.now) (one-further ts place t c.loop-place-test.true c.index-tickets-place.is) ∙ with-last b first c.args.marks.now is t.morsel)

pub returns : goal.returns
returns c = c.loop-place.invariant ∙ ap (λ ts. with_marks c.args.mark c.args.first c.args.marks.now (morsels_of ts)) (take_all c.loop-place.place c.args.tickets.now c.loop-place-test.false)
