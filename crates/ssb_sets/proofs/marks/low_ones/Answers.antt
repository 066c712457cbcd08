use Rattle.ssb_sets.proofs.MarkFacts.{all-ones, low-ones}
use Rattle.ssb_sets.proofs.marks.low_ones.Goals as goal

pub returns-then-count-ge64 : goal.returns-then-count-ge64
returns-then-count-ge64 c i lt = all-ones c.args.count i c.if-count-ge64.true lt

pub returns : goal.returns
returns c i lt = low-ones c.args.count i c.if-count-ge64.false
