use Rattle.std.proofs.Common.{◌≡◌, [], length, ◌+◌, ◌*◌}
use Rattle.ssb_sql.specs.Steps.{more_at}
use Rattle.ssb_sql.specs.ReadExpressions.{adding_at, step_at, expr_at}
use Rattle.ssb_sql.proofs.read_expr.+expression.Given as goal

abbrev pub decreases-expression : goal.decreases-expression
decreases-expression l = 6 * l.depth

abbrev pub decreases-primary : goal.decreases-primary
decreases-primary l = 6 * l.depth + 1

abbrev pub decreases-factor : goal.decreases-factor
decreases-factor l = 6 * l.depth + 2

abbrev pub decreases-term-made : goal.decreases-term-made
decreases-term-made l = 6 * l.depth + 3

abbrev pub decreases-term : goal.decreases-term
decreases-term l = 6 * l.depth + 4

abbrev pub decreases-more_terms : goal.decreases-more_terms
decreases-more_terms l = 6 * l.depth + 5

abbrev pub invariant-more_terms-loop-adding : goal.invariant-more_terms-loop-adding
invariant-more_terms-loop-adding l = more_at adding_at (step_at (expr_at l.depth)) l.all l.rest ≡ more_at adding_at (step_at (expr_at l.depth)) [] l.fn.tokens

abbrev pub decreases-more_terms-loop-adding : goal.decreases-more_terms-loop-adding
decreases-more_terms-loop-adding l = length l.rest
