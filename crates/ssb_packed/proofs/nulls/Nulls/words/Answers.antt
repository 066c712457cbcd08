use Rattle.ssb_packed.proofs.FlagFacts.{words-tell}
use Rattle.ssb_packed.proofs.nulls.Nulls.words.Goals as goal

pub returns : goal.returns
returns c = rw (← c.self.view_is, c.as_slice.ensures.value) (words-tell c.self.inside.words.items c.self.inside.len c.self.invariant)
