use Rattle.ssb_cells.specs.Compare.{compare}
use Rattle.ssb_terms.specs.declared.operator.Op.TheVariants as op
use Rattle.ssb_plan.proofs.SetFacts.{tells-and}
use Rattle.ssb_plan.proofs.leaves.span.Goals as goal

pub returns : goal.returns
returns c =
    tells-and c.args.x.name c.args.x.values.now (λ v. compare op.Ge (v c.args.operand.now) (v c.args.low.now)) (λ v. compare op.Le (v c.args.operand.now) (v c.args.high.now)) c.in_ok-above.above c.in_ok-below.below c.in_ok-numbers.numbers c.either.result
    c.in_ok-above.ensures c.in_ok-below.ensures c.either.ensures c.in_ok-numbers.ensures
