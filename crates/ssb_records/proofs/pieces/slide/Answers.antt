use Rattle.std.proofs.Common.{arith}
use Rattle.ssb_records.proofs.Cutting.{slid-more, slid}
use Rattle.ssb_records.proofs.pieces.slide.Goals as goal

pub loop-i-preserved : goal.loop-i-preserved
loop-i-preserved c = slid-more _ _ _ _ (omega arith) c.loop-i.invariant

pub returns : goal.returns
returns c = slid _ _ _ _ _ (omega arith) c.requires c.loop-i.invariant
