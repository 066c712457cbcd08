use Rattle.std.proofs.Common.{◌≡◌, true, false, sym, ap, ◌∙◌, arith, rules}
use Rattle.ssb_trees.specs.Types.{is_int_type, type_of}
use Rattle.ssb_trees.proofs.TypeFacts.{factor_is, one_is, one_is_none}
use Rattle.ssb_trees.proofs.Sizes.{chain_size, item_size, negative_size, positive_size, step_size, times_size}
use Rattle.ssb_trees.specs.declared.expr.Expr.TheVariants as expr
use Rattle.ssb_trees.specs.declared.expr.Expr.TheViews.{size-Expr, size-Step}
use Rattle.ssb_trees.proofs.types.+expr.Goals as goal

pub are_number_steps-returns-then-not-is_int_type : goal.are_number_steps-returns-then-not-is_int_type
are_number_steps-returns-then-not-is_int_type g t c =
    let other : is_int_type (type_of (g.K.Kinds.kind c.args.kinds.now) c.step-item.result.term) ≡ false = search rules in
    one_is_none _ (g.K.Kinds.kind c.args.kinds.now) c.args.steps.now c.loop-step.step-index c.step-item.result c.loop-step-test.true c.step-item.is other c.loop-step.invariant

pub are_number_steps-loop-step-preserved : goal.are_number_steps-loop-step-preserved
are_number_steps-loop-step-preserved g t c =
    let number : is_int_type (type_of (g.K.Kinds.kind c.args.kinds.now) c.step-item.result.term) ≡ true = search rules in
    one_is _ (g.K.Kinds.kind c.args.kinds.now) c.args.steps.now c.loop-step.step-index c.step-item.result c.loop-step-test.true c.step-item.is number c.loop-step.invariant

pub are_number_factors-returns-then-not-is_int_type : goal.are_number_factors-returns-then-not-is_int_type
are_number_factors-returns-then-not-is_int_type g t c =
    factor_is _ (g.K.Kinds.kind c.args.kinds.now) c.args.factors.now c.loop-factor.factor-index c.factor-item.result false c.loop-factor-test.true c.factor-item.is (sym c.if-not-is_int_type.true ∙ c.is_int_type.ensures ∙ ap is_int_type c.type_of.ensures) c.loop-factor.invariant

pub are_number_factors-loop-factor-preserved : goal.are_number_factors-loop-factor-preserved
are_number_factors-loop-factor-preserved g t c =
    factor_is _ (g.K.Kinds.kind c.args.kinds.now) c.args.factors.now c.loop-factor.factor-index c.factor-item.result true c.loop-factor-test.true c.factor-item.is (sym c.if-not-is_int_type.false ∙ c.is_int_type.ensures ∙ ap is_int_type c.type_of.ensures) c.loop-factor.invariant

pub are_number_steps-type_of-requires : goal.are_number_steps-type_of-requires
are_number_steps-type_of-requires g t c = let e = item_size (size-Step _) c.args.steps.now c.loop-step.step-index c.step-item.result c.loop-step-test.true c.step-item.is in let f = step_size _ c.step-item.result in λ κs h. (omega arith, h)

pub are_number_factors-type_of-requires : goal.are_number_factors-type_of-requires
are_number_factors-type_of-requires g t c = let e = item_size (size-Expr _) c.args.factors.now c.loop-factor.factor-index c.factor-item.result c.loop-factor-test.true c.factor-item.is in λ κs h. (omega arith, h)

pub type_of-are_number_factors-requires : goal.type_of-are_number_factors-requires
type_of-are_number_factors-requires g t c = let e = times_size _ c.args.expr.now c.as_slice-in-Times.result.now (c.in-Times.is ∙ ap expr.Times (sym c.as_slice-in-Times.ensures)) in λ κs h. (omega arith, h)

pub type_of-are_number_steps-requires : goal.type_of-are_number_steps-requires
type_of-are_number_steps-requires g t c = let e = chain_size _ c.args.expr.now c.in-Chain.first c.as_slice.result.now (c.in-Chain.is ∙ ap (expr.Chain c.in-Chain.first) (sym c.as_slice.ensures)) in λ κs h. (omega arith, h)

pub type_of-type_of-requires-in-Chain : goal.type_of-type_of-requires-in-Chain
type_of-type_of-requires-in-Chain g t c = let e = chain_size _ c.args.expr.now c.get-in-Chain.result.now c.in-Chain.steps (c.in-Chain.is ∙ ap (λ first. expr.Chain first c.in-Chain.steps) (sym c.get-in-Chain.ensures)) in λ κs h. (omega arith, h)

pub type_of-type_of-requires-in-Negative : goal.type_of-type_of-requires-in-Negative
type_of-type_of-requires-in-Negative g t c = let e = negative_size _ c.args.expr.now c.get-in-Negative.result.now (c.in-Negative.is ∙ ap expr.Negative (sym c.get-in-Negative.ensures)) in λ κs h. (omega arith, h)

pub type_of-type_of-requires : goal.type_of-type_of-requires
type_of-type_of-requires g t c = let e = positive_size _ c.args.expr.now c.get.result.now (c.in-Positive.is ∙ ap expr.Positive (sym c.get.ensures)) in λ κs h. (omega arith, h)
