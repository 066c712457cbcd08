use Rattle.ssb_sets.proofs.SetFacts.{said_by-not}
use Rattle.ssb_sets.proofs.set.NumberSet.others.Goals as goal

pub returns : goal.returns
returns c n = said_by-not c.args.self.first c.args.self.cuts.items n
