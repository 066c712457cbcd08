use Rattle.ssb_rows.proofs.Going.{breaks-line, writes-line}
use Rattle.ssb_rows.proofs.write.put_row.Goals as goal

pub returns-in_default : goal.returns-in_default
returns-in_default g c = breaks-line _ _ c.args.row c.in_default.ensures

pub returns : goal.returns
returns g c = writes-line c.put.result _ _ _ c.args.row c.in-Ok.ensures c.put.ensures
