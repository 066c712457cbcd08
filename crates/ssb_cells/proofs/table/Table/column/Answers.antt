use Rattle.std.proofs.Common.{◌∙◌, length, ap}
use Rattle.ssb_cells.proofs.TableFacts.{long-at}
use Rattle.ssb_cells.proofs.table.Table.column.Goals as goal

pub returns-clause-long : goal.returns-clause-long
returns-clause-long c =
    let at = rw (← c.self.view_is) at c.requires in
    rw (← c.self.view_is) (ap (λ f. length f.values) c.index.ensures ∙ long-at _ c.args.at c.self.inside.columns.items c.index.result.now c.self.invariant.1 at)
