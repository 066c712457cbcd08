use Rattle.std.proofs.Common.{◌≡◌, arith, length, []}
use Rattle.ssb_plan.specs.Filters.{IsColumnFilter, asked_of}
use Rattle.ssb_plan.proofs.ColumnFacts.{below-all, below-more, below-same, below-zero}
use Rattle.ssb_plan.proofs.table_filter.column_filters.Goals as goal
use Rattle.ssb_plan.proofs.table_filter.column_filters.Goals.{in-Some+in_ok-push, in_default}

pub loop-column-init : goal.loop-column-init
loop-column-init c = rw c.new-columns.ensures.items (below-zero c.args.table.now c.args.place c.args.conjuncts.now)

pub loop-column-preserved : goal.loop-column-preserved
loop-column-preserved c = elim c.match-branch-2.branch [
  | in-Some+in_ok-push w ↦
      let is : IsColumnFilter c.args.table.now c.args.place c.args.conjuncts.now w.in-Some.filter = rw w.in-Some.is at c.in_ok-filter.ensures.filter in
      let own : w.in-Some.filter.column ≡ c.loop-column.column = rw w.in-Some.is at c.in_ok-filter.ensures.column in
      rw (w.columns-is, w.in_ok-push.ensures.items) (below-more c.args.table.now c.args.place c.args.conjuncts.now c.loop-column.column c.loop-column.columns.items w.in-Some.filter c.loop-column.invariant is own)
  | in_default w ↦
      let none : asked_of c.args.place (length c.args.table.now) c.loop-column.column c.args.conjuncts.now ≡ [] = rw w.in_default.is at c.in_ok-filter.ensures.filter in
      rw w.columns-is (below-same c.args.table.now c.args.place c.args.conjuncts.now c.loop-column.column c.loop-column.columns.items c.loop-column.invariant none)
]

pub returns-clause-each : goal.returns-clause-each
returns-clause-each c = below-all c.args.table.now c.args.place c.args.conjuncts.now c.loop-column.column c.loop-column.columns.items (omega (arith, c.loop-column-test.false, c.column_count-column-end.ensures)) c.loop-column.invariant
