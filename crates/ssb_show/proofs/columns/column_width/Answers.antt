use Rattle.ssb_show.proofs.Widths.{column-end, column-more}
use Rattle.ssb_show.proofs.columns.column_width.Goals as goal

pub loop-row-preserved : goal.loop-row-preserved
loop-row-preserved c = column-more _ _ _ _ _ _ _ _ c.in-Some.ensures.some c.row_width.ensures c.max-width.ensures c.loop-row.invariant

pub returns : goal.returns
returns c = column-end _ _ _ _ c.in_default.ensures.none c.loop-row.invariant
