use Rattle.std.proofs.Common.{◌≡◌, filter, take}
use Rattle.ssb_plan.specs.Filters.{is_evaluated}
use Rattle.ssb_plan.proofs.table_filter.evaluated.Given as goal

abbrev pub invariant-loop-conjunct : goal.invariant-loop-conjunct
invariant-loop-conjunct l = l.others.items ≡ filter (is_evaluated l.place l.count) (take l.conjunct-index l.conjuncts)
