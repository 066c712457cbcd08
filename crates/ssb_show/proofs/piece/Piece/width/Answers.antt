use Rattle.std.proofs.Common.{sym}
use Rattle.ssb_show.proofs.Widths.{rule-width}
use Rattle.ssb_show.proofs.piece.Piece.width.Goals as goal

pub returns-in-Rule : goal.returns-in-Rule
returns-in-Rule c = rw c.in-Rule.is (sym (rule-width c.in-Rule.width))
