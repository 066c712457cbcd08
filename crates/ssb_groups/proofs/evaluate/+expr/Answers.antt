use Rattle.std.proofs.Common.{◌≡◌, ◌∙◌, true, map, arith, sym, ap, subst}
use Rattle.std.specs.List.{list_all}
use Rattle.ssb_terms.specs.declared.operator.Adding.{Adding}
use Rattle.ssb_cells.specs.Cell.{Cell}
use Rattle.ssb_plan.specs.declared.input.ColumnRef.{ColumnRef}
use Rattle.ssb_plan.specs.Inputs.{has_column}
use Rattle.ssb_trees.proofs.Taken.{both, in_both, in_part, of_expr, of_step}
use Rattle.ssb_trees.specs.Expressions.{columns, step_columns}
use Rattle.ssb_trees.specs.Lists.{concat}
use Rattle.ssb_trees.specs.declared.expr.Expr.TheOpen.{Expr-F}
use Rattle.ssb_trees.proofs.Sizes.{chain_size, item_size, negative_size, positive_size, step_size, times_size}
use Rattle.ssb_trees.specs.declared.expr.Expr.TheFolds.{fold_out-Step}
use Rattle.ssb_trees.specs.declared.expr.Expr.TheVariants as expr
use Rattle.ssb_trees.specs.declared.expr.Expr.TheViews.{size-Expr, size-Step}
use Rattle.ssb_trees.specs.declared.expr.Step.{Step}
use Rattle.ssb_groups.specs.Outcomes.{outcome_of}
use Rattle.ssb_groups.specs.Refs.{ref_value}
use Rattle.ssb_groups.specs.Value.{Outcome, add_step, number_layer, number_of, step_layer, step_number, times}
use Rattle.ssb_groups.proofs.ColumnFacts.{folded, folded-more}
use Rattle.ssb_groups.proofs.evaluate.+expr.Goals as goal

step_is : (cell : ColumnRef → Cell) (s : Step ColumnRef) → step_number cell s ≡ (s.adding, number_of cell s.term)
step_is cell = fold_out-Step ColumnRef Outcome (Adding × Outcome) (number_layer cell) step_layer

pub chain-loop-step-preserved : goal.chain-loop-step-preserved
chain-loop-step-preserved size c =
    let l = c.loop-step in
    let x = c.step-item.result in
    let cell = ref_value c.args.job.now c.args.row.now in
    folded-more add_step (step_number cell) c.args.steps.now l.step-index x (outcome_of l.so_far) (outcome_of c.add_step-so_far.result) _ c.loop-step-test.true c.step-item.is
    (c.add_step-so_far.ensures ∙ ap (λ n. add_step (outcome_of l.so_far) (x.adding, n)) c.number-term.ensures ∙ ap (add_step (outcome_of l.so_far)) (sym (step_is cell x))) l.invariant

pub chain-returns : goal.chain-returns
chain-returns size c =
    folded add_step (step_number (ref_value c.args.job.now c.args.row.now)) c.args.steps.now c.loop-step.step-index (outcome_of c.loop-step.so_far) _ c.loop-step-test.false c.loop-step.invariant

pub product-loop-factor-preserved : goal.product-loop-factor-preserved
product-loop-factor-preserved size c =
    let l = c.loop-factor in
    folded-more times (number_of (ref_value c.args.job.now c.args.row.now)) c.args.factors.now l.factor-index c.factor-item.result (outcome_of l.so_far) (outcome_of c.apply-so_far.result) _ c.loop-factor-test.true c.factor-item.is
    (c.apply-so_far.ensures ∙ ap (λ n. times (outcome_of l.so_far) n) c.number.ensures) l.invariant

pub product-returns : goal.product-returns
product-returns size c =
    folded times (number_of (ref_value c.args.job.now c.args.row.now)) c.args.factors.now c.loop-factor.factor-index (outcome_of c.loop-factor.so_far) _ c.loop-factor-test.false c.loop-factor.invariant

pub number-cell-requires-clause-there : goal.number-cell-requires-clause-there
number-cell-requires-clause-there size c =
    let j = c.args.job.now in
    (both (has_column j.query j.tables c.in-Column.column) true (of_expr ColumnRef (has_column j.query j.tables) c.args.expr.now c.requires.there (Expr-F.Column c.in-Column.column) c.in-Column.is)).0

pub number-number-requires : goal.number-number-requires
number-number-requires size c =
    let j = c.args.job.now in
    let e = positive_size _ c.args.expr.now c.get.result.now (c.in-Positive.is ∙ ap expr.Positive (sym c.get.ensures)) in
    (omega arith, (c.requires.row, subst (λ part. list_all (has_column j.query j.tables) (columns ColumnRef part) ≡ true) (sym c.get.ensures) (of_expr ColumnRef (has_column j.query j.tables) c.args.expr.now c.requires.there (Expr-F.Positive c.in-Positive.part) c.in-Positive.is)))

pub product-number-requires : goal.product-number-requires
product-number-requires size c =
    let j = c.args.job.now in
    let e = item_size (size-Expr _) c.args.factors.now c.loop-factor.factor-index c.factor-item.result c.loop-factor-test.true c.factor-item.is in
    (omega arith, (c.requires.row, in_part (has_column j.query j.tables) (columns ColumnRef) c.args.factors.now c.loop-factor.factor-index c.factor-item.result c.loop-factor-test.true c.factor-item.is c.requires.there))

pub number-number-requires-in-Negative : goal.number-number-requires-in-Negative
number-number-requires-in-Negative size c =
    let j = c.args.job.now in
    let e = negative_size _ c.args.expr.now c.get-in-Negative.result.now (c.in-Negative.is ∙ ap expr.Negative (sym c.get-in-Negative.ensures)) in
    (omega arith, (c.requires.row, subst (λ part. list_all (has_column j.query j.tables) (columns ColumnRef part) ≡ true) (sym c.get-in-Negative.ensures) (of_expr ColumnRef (has_column j.query j.tables) c.args.expr.now c.requires.there (Expr-F.Negative c.in-Negative.part) c.in-Negative.is)))

pub number-number-requires-in-Chain : goal.number-number-requires-in-Chain
number-number-requires-in-Chain size c =
    let j = c.args.job.now in
    let e = chain_size _ c.args.expr.now c.get-in-Chain.result.now c.in-Chain.steps (c.in-Chain.is ∙ ap (λ first. expr.Chain first c.in-Chain.steps) (sym c.get-in-Chain.ensures)) in
    let h = in_both (has_column j.query j.tables) (columns ColumnRef c.in-Chain.first) (concat (map (step_columns ColumnRef) c.in-Chain.steps)) (of_expr ColumnRef (has_column j.query j.tables) c.args.expr.now c.requires.there (Expr-F.Chain c.in-Chain.first c.in-Chain.steps) c.in-Chain.is) in
    (omega arith, (c.requires.row, subst (λ part. list_all (has_column j.query j.tables) (columns ColumnRef part) ≡ true) (sym c.get-in-Chain.ensures) h.0))

pub number-chain-requires : goal.number-chain-requires
number-chain-requires size c =
    let j = c.args.job.now in
    let e = chain_size _ c.args.expr.now c.in-Chain.first c.as_slice.result.now (c.in-Chain.is ∙ ap (expr.Chain c.in-Chain.first) (sym c.as_slice.ensures)) in
    let h = in_both (has_column j.query j.tables) (columns ColumnRef c.in-Chain.first) (concat (map (step_columns ColumnRef) c.in-Chain.steps)) (of_expr ColumnRef (has_column j.query j.tables) c.args.expr.now c.requires.there (Expr-F.Chain c.in-Chain.first c.in-Chain.steps) c.in-Chain.is) in
    (omega arith, (c.requires.row, subst (λ steps. list_all (has_column j.query j.tables) (concat (map (step_columns ColumnRef) steps)) ≡ true) (sym c.as_slice.ensures) h.1))

pub chain-number-term-requires : goal.chain-number-term-requires
chain-number-term-requires size c =
    let j = c.args.job.now in
    let e = item_size (size-Step _) c.args.steps.now c.loop-step.step-index c.step-item.result c.loop-step-test.true c.step-item.is in
    let f = step_size _ c.step-item.result in
    let h = in_part (has_column j.query j.tables) (step_columns ColumnRef) c.args.steps.now c.loop-step.step-index c.step-item.result c.loop-step-test.true c.step-item.is c.requires.there in
    (omega arith, (c.requires.row, of_step ColumnRef (has_column j.query j.tables) c.step-item.result h))

pub number-product-requires : goal.number-product-requires
number-product-requires size c =
    let j = c.args.job.now in
    let e = times_size _ c.args.expr.now c.as_slice-in-Times.result.now (c.in-Times.is ∙ ap expr.Times (sym c.as_slice-in-Times.ensures)) in
    (omega arith, (c.requires.row, subst (λ es. list_all (has_column j.query j.tables) (concat (map (columns ColumnRef) es)) ≡ true) (sym c.as_slice-in-Times.ensures) (of_expr ColumnRef (has_column j.query j.tables) c.args.expr.now c.requires.there (Expr-F.Times c.in-Times.factors) c.in-Times.is)))
