use Rattle.std.proofs.Common.{◌≡◌, ◌++◌, drop, map, string_bytes}
use Rattle.ssb_trees.specs.Lists.{concat}
use Rattle.ssb_spelling.specs.Titles.{column_name, spelling, step_spelling, times}
use Rattle.ssb_spelling.proofs.expression.+expr.Given as goal

abbrev pub invariant-put_steps-loop-step : goal.invariant-put_steps-loop-step
invariant-put_steps-loop-step l =
    string_bytes l.title ++ concat (map (step_spelling (column_name l.catalog l.query.from)) (drop l.step-index l.steps)) ≡ string_bytes l.fn.title ++ concat (map (step_spelling (column_name l.catalog l.query.from)) l.steps)

abbrev pub invariant-put_further-loop-factor : goal.invariant-put_further-loop-factor
invariant-put_further-loop-factor l =
    string_bytes l.title ++ times (map (spelling (column_name l.catalog l.query.from)) (drop l.factor-index l.factors)) ≡ string_bytes l.fn.title ++ times (map (spelling (column_name l.catalog l.query.from)) l.factors)
