use Rattle.std.proofs.Common.{map, refl, string_bytes}
use Rattle.ssb_trees.specs.Lists.{concat}
use Rattle.ssb_spelling.specs.Titles.{column_name, is_factor, is_primary, is_term, spelling, step_spelling}
use Rattle.ssb_spelling.proofs.Spelt.{chain-grew, on-ok, part-grew, put-more, step-grew, times-grew}
use Rattle.ssb_spelling.proofs.expression.+expr.Goals as goal

pub put_steps-loop-step-preserved : goal.put_steps-loop-step-preserved
put_steps-loop-step-preserved t c =
    let name = column_name c.args.catalog.now c.args.query.now.from in
    put-more (λ ss. concat (map (step_spelling name) ss)) (step_spelling name) c.args.steps.now c.loop-step.step-index c.step-item.result (string_bytes c.loop-step.title) (string_bytes c.put_term.new.title) _ (λ s ss. refl) c.loop-step-test.true c.step-item.is
    (step-grew name c.step-item.result (string_bytes c.loop-step.title) (string_bytes c.push_str.new.self) (string_bytes c.put_term.new.title) c.operator.result.now c.operator.ensures c.in_ok-push_str.ensures.bytes c.in_ok-put_term.ensures) c.loop-step.invariant

pub put_expr-returns-in_ok-put_term-in-Chain : goal.put_expr-returns-in_ok-put_term-in-Chain
put_expr-returns-in_ok-put_term-in-Chain t c =
    let name = column_name c.args.catalog.now c.args.query.now.from in
    on-ok c.put_steps.result
    (chain-grew name c.args.expr.now c.in-Chain.first c.get-in-Chain.result.now c.in-Chain.steps c.as_slice.result.now (string_bytes c.args.title.now) (string_bytes c.put_term.new.title) (string_bytes c.put_steps.new.title) c.in-Chain.is c.get-in-Chain.ensures c.as_slice.ensures c.in_ok-put_term-in-Chain.ensures)
    c.put_steps.ensures

pub put_expr-returns-in_ok-put_factor-in-Times : goal.put_expr-returns-in_ok-put_factor-in-Times
put_expr-returns-in_ok-put_factor-in-Times t c =
    let name = column_name c.args.catalog.now c.args.query.now.from in
    on-ok c.put_further.result
    (times-grew name c.args.expr.now c.in-Some.first.now c.in-Times.factors c.as_slice-in-Times.result.now c.in-Some.rest.now (string_bytes c.args.title.now) (string_bytes c.put_factor.new.title) (string_bytes c.put_further.new.title) c.in-Times.is c.as_slice-in-Times.ensures c.in-Some.ensures.cases.0 c.in_ok-put_factor-in-Times.ensures)
    c.put_further.ensures

pub put_primary-returns : goal.put_primary-returns
put_primary-returns t c =
    let name = column_name c.args.catalog.now c.args.query.now.from in
    on-ok c.put_part.result (part-grew (spelling name c.args.expr.now) is_primary c.form_of.result c.is_primary.result (string_bytes c.args.title.now) (string_bytes c.put_part.new.title) (c.form_of.ensures name) c.is_primary.ensures) c.put_part.ensures

pub put_factor-returns : goal.put_factor-returns
put_factor-returns t c =
    let name = column_name c.args.catalog.now c.args.query.now.from in
    on-ok c.put_part.result (part-grew (spelling name c.args.expr.now) is_factor c.form_of.result c.is_factor.result (string_bytes c.args.title.now) (string_bytes c.put_part.new.title) (c.form_of.ensures name) c.is_factor.ensures) c.put_part.ensures

pub put_term-returns : goal.put_term-returns
put_term-returns t c =
    let name = column_name c.args.catalog.now c.args.query.now.from in
    on-ok c.put_part.result (part-grew (spelling name c.args.expr.now) is_term c.form_of.result c.is_term.result (string_bytes c.args.title.now) (string_bytes c.put_part.new.title) (c.form_of.ensures name) c.is_term.ensures) c.put_part.ensures
