use Rattle.ssb_packed.proofs.FlagFacts.{no-flag}
use Rattle.ssb_packed.proofs.nulls.Nulls.new.Goals as goal

pub invariant_of-result : goal.invariant_of-result
invariant_of-result c i from = rw c.new.ensures.items (no-flag i)
