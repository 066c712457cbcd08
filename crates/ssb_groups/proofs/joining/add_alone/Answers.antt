use Rattle.std.proofs.Common.{[]}
use Rattle.ssb_groups.proofs.joining.add_alone.Goals as goal

pub returns-in-Number-Number-clause-kept : goal.returns-in-Number-Number-clause-kept
returns-in-Number-Number-clause-kept c = λ left right. c.sum.ensures.kept []
