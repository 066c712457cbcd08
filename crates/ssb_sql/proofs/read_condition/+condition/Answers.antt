use Rattle.std.proofs.Common.{◌-◌, arith, rules}
use Rattle.ssb_trees.specs.declared.condition.Condition.TheVariants as conditions
use Rattle.ssb_sql.specs.ReadConditions.{neg_at, conj_at, cond_at}
use Rattle.ssb_sql.proofs.ConditionSound.{neg_shrinks, conj_shrinks, cond_is}
use Rattle.ssb_sql.proofs.read_condition.+condition.Goals as goal

pub conjunction-made-requires-clause-shrinks : goal.conjunction-made-requires-clause-shrinks
conjunction-made-requires-clause-shrinks g t c =
    let p = g.C.Subject.read_at in
    (neg_at (p c.args.depth) (cond_at p c.args.depth), neg_shrinks p c.args.depth, λ ts r h. search rules)

pub conjunction-returns : goal.conjunction-returns
unfolding conj_at
conjunction-returns g t c =
    let p = g.C.Subject.read_at in
    c.made.ensures conditions.All (λ xs x h. search rules) (neg_at (p c.args.depth) (cond_at p c.args.depth)) (neg_shrinks p c.args.depth) (λ ts r h. search rules)

pub condition-made-requires-clause-shrinks : goal.condition-made-requires-clause-shrinks
condition-made-requires-clause-shrinks g t c =
    let p = g.C.Subject.read_at in
    let d = c.args.depth - 1 in
    (conj_at (p d) (cond_at p d), conj_shrinks p d, λ ts r h. search rules)

pub condition-returns : goal.condition-returns
condition-returns g t c =
    let p = g.C.Subject.read_at in
    let d = c.args.depth - 1 in
    rw (cond_is p c.args.depth d c.args.tokens.now (omega (arith, c.if-depth-eq0.false))) (c.made.ensures conditions.Any (λ xs x h. search rules) (conj_at (p d) (cond_at p d)) (conj_shrinks p d) (λ ts r h. search rules))
