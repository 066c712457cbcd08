use Rattle.ssb_rows.proofs.Going.{going-breaks, going-end, going-more, going-start}
use Rattle.ssb_show.proofs.Putting.{line-on}
use Rattle.ssb_show.proofs.sheet.put_row_lines.Goals as goal

pub loop-row-init : goal.loop-row-init
loop-row-init g c = going-start _ _

pub returns-in_default-put_row : goal.returns-in_default-put_row
returns-in_default-put_row g c = going-breaks _ _ _ _ _ _ (line-on _ _ _ c.args.widths.now _ _ _ c.loop-row.invariant c.in-Some.ensures.some) c.in_default-put_row.ensures

pub loop-row-preserved : goal.loop-row-preserved
loop-row-preserved g c = going-more _ _ _ _ _ _ (line-on _ _ _ c.args.widths.now _ _ _ c.loop-row.invariant c.in-Some.ensures.some) c.in-Ok.ensures

pub returns : goal.returns
returns g c = going-end _ _ _ (rw c.in_default.ensures.none at c.loop-row.invariant)
