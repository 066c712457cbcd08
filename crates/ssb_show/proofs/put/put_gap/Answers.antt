use Rattle.ssb_show.proofs.Putting.{writes-two}
use Rattle.ssb_show.proofs.put.put_gap.Goals as goal

pub returns : goal.returns
returns g c = writes-two c.put.result _ _ _ _ _ _ c.spaces_behind.ensures c.in-Ok.ensures c.put.ensures
