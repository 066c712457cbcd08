use Rattle.ssb_show.proofs.Putting.{writes-two}
use Rattle.ssb_show.proofs.put.put_in_column.Goals as goal

pub returns : goal.returns
returns g c = writes-two c.put_letters.result _ _ _ _ _ _ c.spaces_before.ensures c.in-Ok.ensures c.put_letters.ensures
