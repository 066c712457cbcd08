use Rattle.std.proofs.Common.{subst, sym}
use Rattle.ssb_rows.specs.Writing.{Breaks, Writes}
use Rattle.ssb_rows.proofs.Going.{breaks-front, writes-after}
use Rattle.ssb_show.proofs.Putting.{titles-are}
use Rattle.ssb_show.proofs.sheet.put_joined.Goals as goal

pub returns-in_default-put_title : goal.returns-in_default-put_title
returns-in_default-put_title g c = subst (Breaks _ _) (sym (titles-are _ _ _ c.in-Some.ensures.cases.0)) (breaks-front _ _ _ _ c.in_default-put_title.ensures)

pub returns : goal.returns
returns g c = subst (Writes c.put_barred.result _ _) (sym (titles-are _ _ _ c.in-Some.ensures.cases.0)) (writes-after c.put_barred.result _ _ _ _ _ c.in-Ok.ensures c.put_barred.ensures)
