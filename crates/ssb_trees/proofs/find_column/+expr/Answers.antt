use Rattle.std.proofs.Common.{find, map, refl, sym, ◌∙◌, ap, arith}
use Rattle.std.proofs.lemmas.List.{at_drop_all}
use Rattle.ssb_trees.specs.Expressions.{columns, step_columns}
use Rattle.ssb_trees.specs.Lists.{concat}
use Rattle.ssb_trees.specs.declared.expr.Expr.TheOpen.{Expr-F}
use Rattle.ssb_trees.proofs.Columns.{columns_of_step}
use Rattle.ssb_trees.proofs.ExprForms.{columns_of}
use Rattle.ssb_trees.proofs.Finding.{find_front, find_back, part_has, part_lacks}
use Rattle.ssb_trees.proofs.Sizes.{chain_size, item_size, negative_size, positive_size, step_size, times_size}
use Rattle.ssb_trees.specs.declared.expr.Expr.TheVariants as expr
use Rattle.ssb_trees.specs.declared.expr.Expr.TheViews.{size-Expr, size-Step}
use Rattle.ssb_trees.proofs.find_column.+expr.Goals as goal

pub in_factors-returns-in-Some : goal.in_factors-returns-in-Some
in_factors-returns-in-Some g t c =
    part_has (g.T.Test.passed c.args.test.now) (columns _) c.args.factors.now c.loop-factor.factor-index c.factor-item.result c.in-Some.column.now _ c.loop-factor-test.true c.factor-item.is (sym c.in-Some.ensures) c.loop-factor.invariant

pub in_factors-loop-factor-preserved : goal.in_factors-loop-factor-preserved
in_factors-loop-factor-preserved g t c =
    part_lacks (g.T.Test.passed c.args.test.now) (columns _) c.args.factors.now c.loop-factor.factor-index c.factor-item.result _ c.loop-factor-test.true c.factor-item.is (sym c.in_default.ensures) c.loop-factor.invariant

pub in_steps-returns-in-Some : goal.in_steps-returns-in-Some
in_steps-returns-in-Some g t c =
    part_has (g.T.Test.passed c.args.test.now) (step_columns _) c.args.steps.now c.loop-step.step-index c.step-item.result c.in-Some.column.now _ c.loop-step-test.true c.step-item.is (ap (find (g.T.Test.passed c.args.test.now)) (columns_of_step _ c.step-item.result) ∙ sym c.in-Some.ensures) c.loop-step.invariant

pub in_steps-loop-step-preserved : goal.in_steps-loop-step-preserved
in_steps-loop-step-preserved g t c =
    part_lacks (g.T.Test.passed c.args.test.now) (step_columns _) c.args.steps.now c.loop-step.step-index c.step-item.result _ c.loop-step-test.true c.step-item.is (ap (find (g.T.Test.passed c.args.test.now)) (columns_of_step _ c.step-item.result) ∙ sym c.in_default.ensures) c.loop-step.invariant

pub in_factors-loop-factor-init : goal.in_factors-loop-factor-init
in_factors-loop-factor-init g t c = refl

pub in_factors-returns : goal.in_factors-returns
in_factors-returns g t c =
    sym (at_drop_all (λ xs. find (g.T.Test.passed c.args.test.now) (concat (map (columns _) xs))) c.args.factors.now c.loop-factor.factor-index c.loop-factor-test.false) ∙ c.loop-factor.invariant

pub in_steps-loop-step-init : goal.in_steps-loop-step-init
in_steps-loop-step-init g t c = refl

pub in_steps-returns : goal.in_steps-returns
in_steps-returns g t c =
    sym (at_drop_all (λ xs. find (g.T.Test.passed c.args.test.now) (concat (map (step_columns _) xs))) c.args.steps.now c.loop-step.step-index c.loop-step-test.false) ∙ c.loop-step.invariant

pub in_expr-returns-in-Column : goal.in_expr-returns-in-Column
in_expr-returns-in-Column g t c = c.in_leaf.ensures ∙ ap (find (g.T.Test.passed c.args.test.now)) (sym (columns_of _ c.args.expr.now (Expr-F.Column c.in-Column.column) c.in-Column.is))

pub in_expr-returns-in-Number : goal.in_expr-returns-in-Number
in_expr-returns-in-Number g t c = ap (find (g.T.Test.passed c.args.test.now)) (sym (columns_of _ c.args.expr.now (Expr-F.Number c.in-Number.field-0) c.in-Number.is))

pub in_expr-returns-in-Positive : goal.in_expr-returns-in-Positive
in_expr-returns-in-Positive g t c = (rw c.get.ensures at c.in_expr.ensures) ∙ ap (find (g.T.Test.passed c.args.test.now)) (sym (columns_of _ c.args.expr.now (Expr-F.Positive c.in-Positive.part) c.in-Positive.is))

pub in_expr-returns-in-Negative : goal.in_expr-returns-in-Negative
in_expr-returns-in-Negative g t c = (rw c.get-in-Negative.ensures at c.in_expr-in-Negative.ensures) ∙ ap (find (g.T.Test.passed c.args.test.now)) (sym (columns_of _ c.args.expr.now (Expr-F.Negative c.in-Negative.part) c.in-Negative.is))

pub in_expr-returns-in-Some : goal.in_expr-returns-in-Some
in_expr-returns-in-Some g t c =
    let passed = g.T.Test.passed c.args.test.now in
    let C = g.row.C.Denot in
    sym (find_front passed (columns C c.in-Chain.first) _ c.in-Some.column.now (sym (rw c.get-in-Chain.ensures at c.in-Some.ensures))) ∙ ap (find passed) (sym (columns_of C c.args.expr.now (Expr-F.Chain c.in-Chain.first c.in-Chain.steps) c.in-Chain.is))

pub in_expr-returns-in-None : goal.in_expr-returns-in-None
in_expr-returns-in-None g t c =
    let passed = g.T.Test.passed c.args.test.now in
    let C = g.row.C.Denot in
    (rw c.as_slice.ensures at c.in_steps.ensures) ∙ sym (find_back passed (columns C c.in-Chain.first) _ (sym (rw c.get-in-Chain.ensures at c.in-None.ensures))) ∙ ap (find passed) (sym (columns_of C c.args.expr.now (Expr-F.Chain c.in-Chain.first c.in-Chain.steps) c.in-Chain.is))

pub in_expr-returns-in-Times : goal.in_expr-returns-in-Times
in_expr-returns-in-Times g t c = (rw c.as_slice-in-Times.ensures at c.in_factors.ensures) ∙ ap (find (g.T.Test.passed c.args.test.now)) (sym (columns_of _ c.args.expr.now (Expr-F.Times c.in-Times.factors) c.in-Times.is))

pub in_expr-in_expr-requires : goal.in_expr-in_expr-requires
in_expr-in_expr-requires g t c = let e = positive_size _ c.args.expr.now c.get.result.now (c.in-Positive.is ∙ ap expr.Positive (sym c.get.ensures)) in λ κs h. (omega arith, h)

pub in_expr-in_expr-requires-in-Negative : goal.in_expr-in_expr-requires-in-Negative
in_expr-in_expr-requires-in-Negative g t c = let e = negative_size _ c.args.expr.now c.get-in-Negative.result.now (c.in-Negative.is ∙ ap expr.Negative (sym c.get-in-Negative.ensures)) in λ κs h. (omega arith, h)

pub in_expr-in_expr-requires-in-Chain : goal.in_expr-in_expr-requires-in-Chain
in_expr-in_expr-requires-in-Chain g t c = let e = chain_size _ c.args.expr.now c.get-in-Chain.result.now c.in-Chain.steps (c.in-Chain.is ∙ ap (λ first. expr.Chain first c.in-Chain.steps) (sym c.get-in-Chain.ensures)) in λ κs h. (omega arith, h)

pub in_expr-in_steps-requires : goal.in_expr-in_steps-requires
in_expr-in_steps-requires g t c = let e = chain_size _ c.args.expr.now c.in-Chain.first c.as_slice.result.now (c.in-Chain.is ∙ ap (expr.Chain c.in-Chain.first) (sym c.as_slice.ensures)) in λ κs h. (omega arith, h)

pub in_expr-in_factors-requires : goal.in_expr-in_factors-requires
in_expr-in_factors-requires g t c = let e = times_size _ c.args.expr.now c.as_slice-in-Times.result.now (c.in-Times.is ∙ ap expr.Times (sym c.as_slice-in-Times.ensures)) in λ κs h. (omega arith, h)

pub in_factors-in_expr-requires : goal.in_factors-in_expr-requires
in_factors-in_expr-requires g t c = let e = item_size (size-Expr _) c.args.factors.now c.loop-factor.factor-index c.factor-item.result c.loop-factor-test.true c.factor-item.is in λ κs h. (omega arith, h)

pub in_steps-in_expr-requires : goal.in_steps-in_expr-requires
in_steps-in_expr-requires g t c = let e = item_size (size-Step _) c.args.steps.now c.loop-step.step-index c.step-item.result c.loop-step-test.true c.step-item.is in let f = step_size _ c.step-item.result in λ κs h. (omega arith, h)
