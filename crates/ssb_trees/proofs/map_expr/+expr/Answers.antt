use Rattle.std.proofs.Common.{◌≡◌, map, take, ◌∷◌, ◌++◌, [], sym, ap, ap₂, ◌∙◌, arith, subst, true}
use Rattle.std.specs.List.{list_all}
use Rattle.ssb_trees.specs.Lists.{concat}
use Rattle.ssb_trees.specs.Expressions.{mapped, mapped_step}
use Rattle.ssb_trees.specs.declared.expr.Expr.TheOpen.{Expr-F}
use Rattle.ssb_trees.specs.declared.expr.Expr.TheVariants as expr
use Rattle.ssb_trees.proofs.ExprForms.{mapped_of}
use Rattle.ssb_trees.proofs.Mapping.{if_made, made_of, ok_of_ok, map_more, mapped_of_step, with_term}
use Rattle.ssb_trees.proofs.Taken.{in_both, in_part, of_expr, of_step}
use Rattle.ssb_trees.specs.Expressions.{columns, step_columns}
use Rattle.ssb_trees.proofs.Sizes.{chain_size, item_size, negative_size, positive_size, step_size, times_size}
use Rattle.ssb_trees.specs.declared.expr.Expr.TheViews.{size-Expr, size-Step}
use Rattle.ssb_trees.proofs.map_expr.+expr.Goals as goal

pub mapped_steps-loop-step-preserved : goal.mapped_steps-loop-step-preserved
mapped_steps-loop-step-preserved g t c =
    let C = g.row.C.Denot in
    let D = g.row.D.Denot in
    let f = g.M.Leaves.given c.args.columns.now in
    let F = mapped_step C D f in
    if_made c.mapped_expr.result _ (ok_of_ok c.made_step.result c.mapped_expr.result (with_term c.step-item.result) _ c.in_ok-all.ensures c.made_step.ensures) c.mapped_expr.ensures
    (λ term pushed h. pushed ∙ ap (λ xs. xs ++ with_term c.step-item.result term ∷ []) c.loop-step.invariant
    ∙ ap (λ y. map F (take c.loop-step.step-index c.args.steps.now) ++ y ∷ []) (ap (with_term c.step-item.result) h ∙ sym (mapped_of_step C D f c.step-item.result))
    ∙ sym (map_more F c.args.steps.now c.loop-step.step-index c.step-item.result c.loop-step-test.true c.step-item.is))

pub mapped_factors-loop-factor-preserved : goal.mapped_factors-loop-factor-preserved
mapped_factors-loop-factor-preserved g t c =
    let F = mapped g.row.C.Denot g.row.D.Denot (g.M.Leaves.given c.args.columns.now) in
    if_made c.mapped_expr.result _ c.in_ok-all.ensures c.mapped_expr.ensures
    (λ y pushed h. pushed ∙ ap (λ xs. xs ++ y ∷ []) c.loop-factor.invariant ∙ ap (λ z. map F (take c.loop-factor.factor-index c.args.factors.now) ++ z ∷ []) h
    ∙ sym (map_more F c.args.factors.now c.loop-factor.factor-index c.factor-item.result c.loop-factor-test.true c.factor-item.is))

pub mapped_expr-returns-in-Number : goal.mapped_expr-returns-in-Number
mapped_expr-returns-in-Number g t c = sym (mapped_of _ _ (g.M.Leaves.given c.args.columns.now) c.args.expr.now (Expr-F.Number c.in-Number.number) c.in-Number.is)

pub mapped_expr-returns-in_ok-steps-in-Chain : goal.mapped_expr-returns-in_ok-steps-in-Chain
mapped_expr-returns-in_ok-steps-in-Chain g t c = ap₂ expr.Chain (rw c.get-in-Chain.ensures at c.in_ok-first-in-Chain.ensures) (rw c.as_slice.ensures at c.in_ok-steps-in-Chain.ensures) ∙ sym (mapped_of _ _ (g.M.Leaves.given c.args.columns.now) c.args.expr.now (Expr-F.Chain c.in-Chain.first c.in-Chain.steps) c.in-Chain.is)

pub mapped_expr-returns-in-Column : goal.mapped_expr-returns-in-Column
mapped_expr-returns-in-Column g t c =
    made_of c.leaf.result c.map.result expr.Column _ _ c.map.ensures.cases c.leaf.ensures
    (λ x h. ap expr.Column h ∙ sym (mapped_of _ _ (g.M.Leaves.given c.args.columns.now) c.args.expr.now (Expr-F.Column c.in-Column.column) c.in-Column.is))

pub mapped_expr-returns-in-Positive : goal.mapped_expr-returns-in-Positive
mapped_expr-returns-in-Positive g t c =
    made_of c.mapped_part.result c.map-in-Positive.result expr.Positive _ _ c.map-in-Positive.ensures.cases (rw c.get.ensures at c.mapped_part.ensures)
    (λ part h. ap expr.Positive h ∙ sym (mapped_of _ _ (g.M.Leaves.given c.args.columns.now) c.args.expr.now (Expr-F.Positive c.in-Positive.part) c.in-Positive.is))

pub mapped_expr-returns-in-Negative : goal.mapped_expr-returns-in-Negative
mapped_expr-returns-in-Negative g t c =
    made_of c.mapped_part-in-Negative.result c.map-in-Negative.result expr.Negative _ _ c.map-in-Negative.ensures.cases (rw c.get-in-Negative.ensures at c.mapped_part-in-Negative.ensures)
    (λ part h. ap expr.Negative h ∙ sym (mapped_of _ _ (g.M.Leaves.given c.args.columns.now) c.args.expr.now (Expr-F.Negative c.in-Negative.part) c.in-Negative.is))

pub mapped_expr-returns-in-Times : goal.mapped_expr-returns-in-Times
mapped_expr-returns-in-Times g t c =
    made_of c.mapped_factors.result c.map-in-Times.result expr.Times _ _ c.map-in-Times.ensures.cases (rw c.as_slice-in-Times.ensures at c.mapped_factors.ensures)
    (λ factors h. ap expr.Times h ∙ sym (mapped_of _ _ (g.M.Leaves.given c.args.columns.now) c.args.expr.now (Expr-F.Times c.in-Times.factors) c.in-Times.is))

pub mapped_expr-mapped_part-requires : goal.mapped_expr-mapped_part-requires
mapped_expr-mapped_part-requires g t c = let e = positive_size _ c.args.expr.now c.get.result.now (c.in-Positive.is ∙ ap expr.Positive (sym c.get.ensures)) in λ κs h. (omega arith, (h.0, (h.1.0, (h.1.1, subst (λ part. list_all g.M.Leaves.taken (columns _ part) ≡ true) (sym c.get.ensures) (of_expr _ g.M.Leaves.taken c.args.expr.now c.requires (Expr-F.Positive c.in-Positive.part) c.in-Positive.is)))))

pub mapped_expr-mapped_part-requires-in-Negative : goal.mapped_expr-mapped_part-requires-in-Negative
mapped_expr-mapped_part-requires-in-Negative g t c = let e = negative_size _ c.args.expr.now c.get-in-Negative.result.now (c.in-Negative.is ∙ ap expr.Negative (sym c.get-in-Negative.ensures)) in λ κs h. (omega arith, (h.0, (h.1.0, (h.1.1, subst (λ part. list_all g.M.Leaves.taken (columns _ part) ≡ true) (sym c.get-in-Negative.ensures) (of_expr _ g.M.Leaves.taken c.args.expr.now c.requires (Expr-F.Negative c.in-Negative.part) c.in-Negative.is)))))

pub mapped_expr-mapped_factors-requires : goal.mapped_expr-mapped_factors-requires
mapped_expr-mapped_factors-requires g t c = let e = times_size _ c.args.expr.now c.as_slice-in-Times.result.now (c.in-Times.is ∙ ap expr.Times (sym c.as_slice-in-Times.ensures)) in λ κs h. (omega arith, (h.0, (h.1.0, (h.1.1, subst (λ es. list_all g.M.Leaves.taken (concat (map (columns _) es)) ≡ true) (sym c.as_slice-in-Times.ensures) (of_expr _ g.M.Leaves.taken c.args.expr.now c.requires (Expr-F.Times c.in-Times.factors) c.in-Times.is)))))

pub mapped_factors-mapped_expr-requires : goal.mapped_factors-mapped_expr-requires
mapped_factors-mapped_expr-requires g t c = let e = item_size (size-Expr _) c.args.factors.now c.loop-factor.factor-index c.factor-item.result c.loop-factor-test.true c.factor-item.is in λ κs h. (omega arith, (h.0, (h.1.0, (h.1.1, in_part g.M.Leaves.taken (columns _) c.args.factors.now c.loop-factor.factor-index c.factor-item.result c.loop-factor-test.true c.factor-item.is c.requires))))

pub mapped_expr-mapped_part-requires-in-Chain : goal.mapped_expr-mapped_part-requires-in-Chain
mapped_expr-mapped_part-requires-in-Chain g t c = let e = chain_size _ c.args.expr.now c.get-in-Chain.result.now c.in-Chain.steps (c.in-Chain.is ∙ ap (λ first. expr.Chain first c.in-Chain.steps) (sym c.get-in-Chain.ensures)) in λ κs h. (omega arith, (h.0, (h.1.0, (h.1.1, rw (sym c.get-in-Chain.ensures) at (in_both g.M.Leaves.taken (columns _ c.in-Chain.first) _ (of_expr _ g.M.Leaves.taken c.args.expr.now c.requires (Expr-F.Chain c.in-Chain.first c.in-Chain.steps) c.in-Chain.is)).0))))

pub mapped_expr-mapped_steps-requires : goal.mapped_expr-mapped_steps-requires
mapped_expr-mapped_steps-requires g t c = let e = chain_size _ c.args.expr.now c.in-Chain.first c.as_slice.result.now (c.in-Chain.is ∙ ap (expr.Chain c.in-Chain.first) (sym c.as_slice.ensures)) in λ κs h. (omega arith, (h.0, (h.1.0, (h.1.1, rw (sym c.as_slice.ensures) at (in_both g.M.Leaves.taken (columns _ c.in-Chain.first) _ (of_expr _ g.M.Leaves.taken c.args.expr.now c.requires (Expr-F.Chain c.in-Chain.first c.in-Chain.steps) c.in-Chain.is)).1))))

pub mapped_steps-mapped_expr-requires : goal.mapped_steps-mapped_expr-requires
mapped_steps-mapped_expr-requires g t c = let e = item_size (size-Step _) c.args.steps.now c.loop-step.step-index c.step-item.result c.loop-step-test.true c.step-item.is in let f = step_size _ c.step-item.result in λ κs h. (omega arith, (h.0, (h.1.0, (h.1.1, of_step _ g.M.Leaves.taken c.step-item.result (in_part g.M.Leaves.taken (step_columns _) c.args.steps.now c.loop-step.step-index c.step-item.result c.loop-step-test.true c.step-item.is c.requires)))))

pub mapped_part-mapped_expr-requires : goal.mapped_part-mapped_expr-requires
mapped_part-mapped_expr-requires g t c = λ κs h. (omega arith, (h.0, (h.1.0, (h.1.1, c.requires))))
