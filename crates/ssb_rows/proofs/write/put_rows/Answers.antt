use Rattle.ssb_rows.proofs.Going.{going-start, row-on, going-more, going-breaks, going-end}
use Rattle.ssb_rows.proofs.write.put_rows.Goals as goal

pub loop-row-init : goal.loop-row-init
loop-row-init g c = going-start _ _

pub returns-in_default-put_row : goal.returns-in_default-put_row
returns-in_default-put_row g c = going-breaks _ _ _ _ _ _ (row-on _ _ _ _ _ _ c.loop-row.invariant c.in-Some.ensures.some) c.in_default-put_row.ensures

pub loop-row-preserved : goal.loop-row-preserved
loop-row-preserved g c = going-more _ _ _ _ _ _ (row-on _ _ _ _ _ _ c.loop-row.invariant c.in-Some.ensures.some) c.in-Ok.ensures

pub returns : goal.returns
returns g c = going-end _ _ _ (rw c.in_default.ensures.none at c.loop-row.invariant)
