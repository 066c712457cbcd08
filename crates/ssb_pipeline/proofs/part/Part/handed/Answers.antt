use Rattle.std.proofs.Common.{sym}
use Rattle.std.proofs.lemmas.List.FromFn.{length-range_with_len}
use Rattle.ssb_pipeline.proofs.part.Part.handed.Goals as goal

pub returns : goal.returns
returns c = rw (← c.self.view_is) (sym (length-range_with_len c.self.inside.first c.self.inside.next))
