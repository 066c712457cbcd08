use Rattle.ssb_show.specs.Pieces.{field_of}
use Rattle.ssb_show.proofs.Putting.{field-gap}
use Rattle.ssb_show.proofs.put.put_field.Goals as goal

pub returns-then-more : goal.returns-then-more
returns-then-more g c = field-gap c.put_gap.result _ _ _ c.args.more c.args.width (field_of c.args.piece.now) c.if-more.true c.in-Ok.ensures c.put_gap.ensures
