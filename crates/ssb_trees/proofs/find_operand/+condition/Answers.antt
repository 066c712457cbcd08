use Rattle.std.proofs.Common.{◌∙◌, ap, arith, find, map, refl, sym}
use Rattle.std.proofs.lemmas.List.{at_drop_all}
use Rattle.ssb_trees.specs.Lists.{concat}
use Rattle.ssb_trees.specs.Conditions.{operands}
use Rattle.ssb_trees.proofs.Forms.{operands_of}
use Rattle.ssb_trees.specs.declared.condition.Condition.TheOpen.{Condition-F}
use Rattle.ssb_trees.specs.declared.condition.Condition.TheVariants.{rolls-Any, rolls-All}
use Rattle.ssb_trees.proofs.Finding.{part_has, part_lacks}
use Rattle.ssb_trees.proofs.Sizes.{all_size, any_size, item_size, not_size}
use Rattle.ssb_trees.specs.declared.condition.Condition.TheViews.{size-Condition}
use Rattle.ssb_trees.specs.declared.condition.Condition.TheVariants as condition
use Rattle.ssb_trees.proofs.find_operand.+condition.Goals as goal

pub in_parts-loop-part-init : goal.in_parts-loop-part-init
in_parts-loop-part-init g t c = refl

pub in_parts-returns-in-Some : goal.in_parts-returns-in-Some
in_parts-returns-in-Some g t c =
    part_has (g.T.Test.passed c.args.test.now) (operands _) c.args.parts.now c.loop-part.part-index c.part-item.result c.in-Some.operand.now _ c.loop-part-test.true c.part-item.is (sym c.in-Some.ensures) c.loop-part.invariant

pub in_parts-loop-part-preserved : goal.in_parts-loop-part-preserved
in_parts-loop-part-preserved g t c =
    part_lacks (g.T.Test.passed c.args.test.now) (operands _) c.args.parts.now c.loop-part.part-index c.part-item.result _ c.loop-part-test.true c.part-item.is (sym c.in_default.ensures) c.loop-part.invariant

pub in_parts-returns : goal.in_parts-returns
in_parts-returns g t c =
    sym (at_drop_all (λ xs. find (g.T.Test.passed c.args.test.now) (concat (map (operands _) xs))) c.args.parts.now c.loop-part.part-index c.loop-part-test.false) ∙ c.loop-part.invariant

pub in_condition-returns-in-Any : goal.in_condition-returns-in-Any
in_condition-returns-in-Any g t c = (rw c.as_slice.ensures at c.in_parts.ensures) ∙ ap (find (g.T.Test.passed c.args.test.now)) (sym (operands_of _ c.args.condition.now (Condition-F.Any c.in-Any.parts) (c.in-Any.is ∙ sym (rolls-Any c.in-Any.parts))))

pub in_condition-returns-in-All : goal.in_condition-returns-in-All
in_condition-returns-in-All g t c = (rw c.as_slice-in-All.ensures at c.in_parts-in-All.ensures) ∙ ap (find (g.T.Test.passed c.args.test.now)) (sym (operands_of _ c.args.condition.now (Condition-F.All c.in-All.parts) (c.in-All.is ∙ sym (rolls-All c.in-All.parts))))

pub in_condition-returns-in-Not : goal.in_condition-returns-in-Not
in_condition-returns-in-Not g t c = (rw c.get.ensures at c.in_condition.ensures) ∙ ap (find (g.T.Test.passed c.args.test.now)) (sym (operands_of _ c.args.condition.now (Condition-F.Not c.in-Not.part) c.in-Not.is))

pub in_condition-returns-in-Compare : goal.in_condition-returns-in-Compare
in_condition-returns-in-Compare g t c = c.in_two.ensures ∙ ap (find (g.T.Test.passed c.args.test.now)) (sym (operands_of _ c.args.condition.now (Condition-F.Compare c.in-Compare.field-0 c.in-Compare.a c.in-Compare.b) c.in-Compare.is))

pub in_condition-returns-in-Between : goal.in_condition-returns-in-Between
in_condition-returns-in-Between g t c = c.in_three.ensures ∙ ap (find (g.T.Test.passed c.args.test.now)) (sym (operands_of _ c.args.condition.now (Condition-F.Between c.in-Between.operand c.in-Between.low c.in-Between.high c.in-Between.negated) c.in-Between.is))

pub in_condition-returns-in-In : goal.in_condition-returns-in-In
in_condition-returns-in-In g t c = c.in_leaf.ensures ∙ ap (find (g.T.Test.passed c.args.test.now)) (sym (operands_of _ c.args.condition.now (Condition-F.In c.in-In.operand c.in-In.literals c.in-In.negated) c.in-In.is))

pub in_condition-returns-in-IsNull : goal.in_condition-returns-in-IsNull
in_condition-returns-in-IsNull g t c = c.in_leaf-in-IsNull.ensures ∙ ap (find (g.T.Test.passed c.args.test.now)) (sym (operands_of _ c.args.condition.now (Condition-F.IsNull c.in-IsNull.operand c.in-IsNull.negated) c.in-IsNull.is))

pub in_condition-in_parts-requires : goal.in_condition-in_parts-requires
in_condition-in_parts-requires g t c = let e = any_size _ c.args.condition.now c.as_slice.result.now (c.in-Any.is ∙ ap condition.Any (sym c.as_slice.ensures)) in λ κs h. (omega arith, h)

pub in_condition-in_parts-requires-in-All : goal.in_condition-in_parts-requires-in-All
in_condition-in_parts-requires-in-All g t c = let e = all_size _ c.args.condition.now c.as_slice-in-All.result.now (c.in-All.is ∙ ap condition.All (sym c.as_slice-in-All.ensures)) in λ κs h. (omega arith, h)

pub in_condition-in_condition-requires : goal.in_condition-in_condition-requires
in_condition-in_condition-requires g t c = let e = not_size _ c.args.condition.now c.get.result.now (c.in-Not.is ∙ ap condition.Not (sym c.get.ensures)) in λ κs h. (omega arith, h)

pub in_parts-in_condition-requires : goal.in_parts-in_condition-requires
in_parts-in_condition-requires g t c = let e = item_size (size-Condition _) c.args.parts.now c.loop-part.part-index c.part-item.result c.loop-part-test.true c.part-item.is in λ κs h. (omega arith, h)
