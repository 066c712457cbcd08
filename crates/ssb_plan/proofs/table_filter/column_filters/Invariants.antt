use Rattle.ssb_plan.proofs.ColumnFacts.{AreBelow}
use Rattle.ssb_plan.proofs.table_filter.column_filters.Given as goal

abbrev pub invariant-loop-column : goal.invariant-loop-column
invariant-loop-column l = AreBelow l.table l.place l.conjuncts l.column l.columns.items
