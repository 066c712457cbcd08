use Rattle.std.proofs.Common.{length}
use Rattle.ssb_sets.proofs.set.NumberSet.+listed.Given as goal

abbrev pub decreases-listed : goal.decreases-listed
decreases-listed l = length l.numbers.now
