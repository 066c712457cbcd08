use Rattle.ssb_rows.proofs.Going.{breaks-flushed, puts-flushed, writes-after, writes-past}
use Rattle.ssb_rows.proofs.page.Page.put.Goals as goal

pub returns-in_default : goal.returns-in_default
returns-in_default g c =
    let e = c.in_default.ensures in
    breaks-flushed _ _ _ _ _ _ _ _ _ e.began e.failed e.holds

pub returns : goal.returns
returns g c =
    let e = c.in-Ok.ensures in
    let w = c.write_all.ensures in
    writes-after c.write_all.result _ _ _ _ _ (puts-flushed _ _ _ _ _ _ _ _ e.wrote e.empty e.clean e.holds) (writes-past c.write_all.result _ _ _ _ _ _ _ _ e.empty w.wrote w.clean w.failed w.began w.holds)
