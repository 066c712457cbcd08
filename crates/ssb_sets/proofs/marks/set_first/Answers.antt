use Rattle.std.proofs.Common.{◌∙◌, ◌<◌, ap, arith, length, ltb}
use Rattle.ssb_sets.proofs.MarkFacts.{filled-more, marks-all}
use Rattle.ssb_sets.proofs.marks.set_first.Goals as goal

pub loop-at-preserved : goal.loop-at-preserved
loop-at-preserved c =
    let long = c.requires.long in
    let same = c.loop-at.auto.words in
    let more = c.loop-at-test.true in
    let lt : c.loop-at.at < length c.loop-at.words = omega (arith, long, same, more) in
    filled-more c.loop-at.words c.loop-at.at c.low_ones.result c.args.count lt (λ j small. c.low_ones.ensures j small ∙ ap (ltb j) c.saturating_sub.ensures) c.loop-at.invariant

pub returns : goal.returns
returns c = λ from.
    let long = c.requires.long in
    let same = c.loop-at.auto.words in
    let past = c.loop-at-test.false in
    let few = c.requires.few in
    marks-all from c.args.count c.loop-at.at c.loop-at.words (omega (arith, long, past, few)) (omega (arith, long, same, past)) c.loop-at.invariant
