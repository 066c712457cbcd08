use Rattle.std.proofs.Common.{sym}
use Rattle.ssb_packed.proofs.FlagFacts.{length-flags}
use Rattle.ssb_packed.proofs.nulls.Nulls.len.Goals as goal

pub returns : goal.returns
returns c = rw (← c.self.view_is) (sym (length-flags c.self.inside.words.items c.self.inside.len))
