use Rattle.std.proofs.Common.{arith}
use Rattle.ssb_plan.specs.JobShape.{from_tables}
use Rattle.ssb_groups.proofs.AddFacts.{fact_there, number_below}
use Rattle.ssb_groups.proofs.gather.fact_of.Goals as goal

pub row-requires : goal.row-requires
row-requires c =
    let star = rw c.query.ensures.query at c.parts-parts.ensures.star in
    rw (c.parts-parts.ensures.parts, c.query.ensures.query) (fact_there c.args.job.now c.args.row.now star c.requires)

pub overflow_add-result : goal.overflow_add-result
overflow_add-result c =
    let j = c.args.job.now in
    let at = rw (c.parts-parts.ensures.parts, c.query.ensures.query) at c.row.ensures in
    let below = number_below (from_tables j) c.args.row.now c.requires j.query.fact c.row.result at in
    omega (arith, below, c.fact_rows-rows.ensures, c.fact_rows-rows.type_inv)
