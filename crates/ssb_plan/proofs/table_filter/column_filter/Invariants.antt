use Rattle.std.proofs.Common.{take}
use Rattle.ssb_sets.specs.declared.join.Join.TheVariants as joins
use Rattle.ssb_plan.specs.Filters.{asked_of}
use Rattle.ssb_plan.proofs.SetFacts.{TellMany}
use Rattle.ssb_plan.proofs.table_filter.column_filter.Given as goal

abbrev pub invariant-loop-conjunct : goal.invariant-loop-conjunct
invariant-loop-conjunct l = TellMany l.x.name l.x.values.now joins.And (asked_of l.place l.count l.column (take l.conjunct-index l.conjuncts)) l.null l.sets.items
