use Rattle.ssb_rows.proofs.Going.{breaks-front, writes-after}
use Rattle.ssb_show.proofs.sheet.put_bar_line.Goals as goal

pub returns-in_default : goal.returns-in_default
returns-in_default g c = breaks-front _ _ _ _ c.in_default.ensures

pub returns : goal.returns
returns g c = writes-after c.put.result _ _ _ _ _ c.in-Ok.ensures c.put.ensures
