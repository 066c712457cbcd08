use Rattle.std.proofs.Common.{◌∙◌, get_or, map, pos, sym}
use Rattle.ssb_sets.proofs.RowFacts.{wide-read, within-more}
use Rattle.ssb_sets.proofs.marks.read_all.Goals as goal

pub loop-i-preserved : goal.loop-i-preserved
loop-i-preserved g c =
    let read = wide-read g.T.Number.wide c.args.numbers.now c.loop-i.i c.index-numbers-i.result c.loop-i-test.true c.index-numbers-i.is ∙ sym c.wide-number.ensures.number in
    within-more g.T.Number.bounds (λ k. get_or (map g.T.Number.wide c.args.numbers.now) k (pos 0)) c.loop-i.i _ c.loop-i.invariant read c.wide-number.ensures.within
