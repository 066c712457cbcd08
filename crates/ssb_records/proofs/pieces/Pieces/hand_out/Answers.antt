use Rattle.ssb_records.proofs.Cutting.{cut-at}
use Rattle.ssb_records.proofs.pieces.Pieces.hand_out.Goals as goal

pub returns-clause-split : goal.returns-clause-split
returns-clause-split g c = cut-at _ _ _ _ c.requires.cut c.requires.end
