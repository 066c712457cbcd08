use Rattle.std.proofs.Common.{[], sym, arith, rules}
use Rattle.std.proofs.lemmas.Result.{err_from_is_err_and}
use Rattle.ssb_trees.specs.declared.expr.Expr.TheVariants as expressions
use Rattle.ssb_sql.specs.Steps.{more_at}
use Rattle.ssb_sql.specs.ReadExpressions.{factor_at, term_at, adding_at, step_at, expr_at}
use Rattle.ssb_sql.proofs.Loop.{goes_on, is_done, turn_fails, shorter_by}
use Rattle.ssb_sql.proofs.ExpressionSound.{factor_shrinks, step_shrinks}
use Rattle.ssb_sql.proofs.SumFacts.{step_reads, step_stops, sum_reads, sum_stops}
use Rattle.ssb_sql.proofs.read_expr.+expression.Goals as goal

pub term-made-requires-clause-shrinks : goal.term-made-requires-clause-shrinks
term-made-requires-clause-shrinks t c = (factor_at (expr_at c.args.depth), factor_shrinks c.args.depth, λ ts r h. search rules)

pub term-returns : goal.term-returns
unfolding term_at
term-returns t c = c.made.ensures expressions.Times (λ xs x h. search rules) (factor_at (expr_at c.args.depth)) (factor_shrinks c.args.depth) (λ ts r h. search rules)

pub more_terms-returns-in_err-term : goal.more_terms-returns-in_err-term
more_terms-returns-in_err-term t c =
    let q = err_from_is_err_and c.from_residual.result c.from_residual.ensures.1 in
    let d = c.args.depth in
    let e = c.in_err-term.field-0.0 in
    rw (q.1, q.2) (turn_fails adding_at (step_at (expr_at d)) (step_shrinks d) e c.loop-adding.all c.loop-adding.rest.now (c.in-Some.adding, c.in-Some.start.now) (more_at adding_at (step_at (expr_at d)) [] c.args.tokens.now) (sym c.in-Some.ensures) (step_stops d e (c.in-Some.adding, c.in-Some.start.now) c.in_err-term.ensures) c.loop-adding.invariant)

pub more_terms-loop-adding-smaller : goal.more_terms-loop-adding-smaller
more_terms-loop-adding-smaller t c =
    let d = c.args.depth in
    let one = c.in_ok-term in
    shorter_by adding_at (step_at (expr_at d)) (step_shrinks d) c.loop-adding.rest.now one.end.now (c.in-Some.adding, c.in-Some.start.now) _ (sym c.in-Some.ensures) (step_reads d (c.in-Some.adding, c.in-Some.start.now) one.end.now one.term one.ensures)

pub more_terms-loop-adding-preserved : goal.more_terms-loop-adding-preserved
more_terms-loop-adding-preserved t c =
    let d = c.args.depth in
    let one = c.in_ok-term in
    rw c.in_ok-push.ensures.ok (goes_on adding_at (step_at (expr_at d)) (step_shrinks d) c.loop-adding.all c.loop-adding.rest.now one.end.now (c.in-Some.adding, c.in-Some.start.now) _ (more_at adding_at (step_at (expr_at d)) [] c.args.tokens.now) (sym c.in-Some.ensures) (step_reads d (c.in-Some.adding, c.in-Some.start.now) one.end.now one.term one.ensures) c.loop-adding.invariant)

pub more_terms-returns : goal.more_terms-returns
more_terms-returns t c = is_done adding_at (step_at (expr_at c.args.depth)) (step_shrinks c.args.depth) c.loop-adding.all c.loop-adding.rest.now (more_at adding_at (step_at (expr_at c.args.depth)) [] c.args.tokens.now) (sym c.in_default.ensures) c.loop-adding.invariant

pub expression-returns-in_err-steps : goal.expression-returns-in_err-steps
expression-returns-in_err-steps t c =
    let q = err_from_is_err_and c.from_residual-in_err-steps.result c.from_residual-in_err-steps.ensures.1 in
    rw (q.1, q.2) (sum_stops c.args.depth _ c.args.tokens.now _ _ c.in_err-steps.field-0.0 (omega (arith, c.if-depth-eq0.false)) c.in_ok-first.ensures c.in_err-steps.ensures)

pub expression-returns : goal.expression-returns
expression-returns t c = rw (sum_reads c.args.depth _ c.args.tokens.now _ _ _ _ (omega (arith, c.if-depth-eq0.false)) c.in_ok-first.ensures c.in_ok-steps.ensures) c.sum_of.ensures
