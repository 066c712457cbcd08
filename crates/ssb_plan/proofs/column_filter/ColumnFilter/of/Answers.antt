use Rattle.ssb_conditions.proofs.Cells.{some_at}
use Rattle.ssb_plan.proofs.column_filter.ColumnFilter.of.Goals as goal

pub returns-clause-there : goal.returns-clause-there
returns-clause-there c =
    let column = some_at c.args.table.now c.args.column c.requires in
    (column.0, column.1, λ n least greatest. c.in_ok-check.ensures n least greatest)
