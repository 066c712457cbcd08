use Rattle.std.proofs.Common.{◌≡◌, ◌∙◌, ap, arith, map, subst, sym, true}
use Rattle.std.specs.List.{list_all}
use Rattle.ssb_trees.specs.Lists.{concat}
use Rattle.ssb_trees.proofs.Forms.{is_due}
use Rattle.ssb_trees.specs.declared.condition.Condition.TheOpen.{Condition-F}
use Rattle.ssb_trees.specs.declared.condition.Condition.TheVariants as condition
use Rattle.ssb_trees.specs.declared.condition.Condition.TheVariants.{rolls-Any, rolls-All}
use Rattle.ssb_trees.proofs.InOrder.{all_is, any_is, all_made, next_part}
use Rattle.ssb_trees.proofs.Mapping.{if_made, made_of}
use Rattle.ssb_trees.proofs.Taken.{both, in_part, of_condition}
use Rattle.ssb_trees.specs.Conditions.{operands}
use Rattle.ssb_trees.proofs.Sizes.{all_size, any_size, item_size, not_size}
use Rattle.ssb_trees.specs.declared.condition.Condition.TheViews.{size-Condition}
use Rattle.ssb_trees.proofs.map_condition.+condition.Goals as goal

pub mapped_parts-loop-part-preserved : goal.mapped_parts-loop-part-preserved
mapped_parts-loop-part-preserved g t c =
    let M = g.M.LeavesInOrder in
    if_made c.mapped_condition.result _ c.in_ok-all.ensures c.mapped_condition.ensures
    (λ y pushed h. next_part _ _ _ M.given M.next c.args.parts.now c.loop-part.part-index c.part-item.result c.loop-part.operands c.mapped_condition.new.operands c.loop-part.all _ y
    (all_made _ _ _ M.given M.next c.args.parts.now c.args.operands.now)
    c.loop-part-test.true c.part-item.is h pushed c.loop-part.invariant)

pub mapped_condition-returns-in-Compare : goal.mapped_condition-returns-in-Compare
mapped_condition-returns-in-Compare g t c = is_due _ _ _ g.M.LeavesInOrder.given g.M.LeavesInOrder.next c.args.condition.now (Condition-F.Compare c.in-Compare.op c.in-Compare.a c.in-Compare.b) c.args.operands.now c.mapped_compare.result _ c.in-Compare.is c.mapped_compare.ensures

pub mapped_condition-returns-in-Between : goal.mapped_condition-returns-in-Between
mapped_condition-returns-in-Between g t c = is_due _ _ _ g.M.LeavesInOrder.given g.M.LeavesInOrder.next c.args.condition.now (Condition-F.Between c.in-Between.operand c.in-Between.low c.in-Between.high c.in-Between.negated) c.args.operands.now c.mapped_between.result _ c.in-Between.is c.mapped_between.ensures

pub mapped_condition-returns-in-In : goal.mapped_condition-returns-in-In
mapped_condition-returns-in-In g t c = is_due _ _ _ g.M.LeavesInOrder.given g.M.LeavesInOrder.next c.args.condition.now (Condition-F.In c.in-In.operand c.in-In.literals c.in-In.negated) c.args.operands.now c.mapped_in.result _ c.in-In.is (rw c.as_slice-in-In.ensures at c.mapped_in.ensures)

pub mapped_condition-returns-in-Any : goal.mapped_condition-returns-in-Any
mapped_condition-returns-in-Any g t c =
    let M = g.M.LeavesInOrder in
    let s = c.args.operands.now in
    made_of c.mapped_parts.result c.map.result condition.Any _ _ c.map.ensures.cases c.mapped_parts.ensures
    (λ all h. any_is _ _ _ M.given M.next c.in-Any.parts c.args.condition.now s _ _ c.in-Any.is
    (subst (λ ps. let r = all_made _ _ _ M.given M.next ps s in (all ≡ r.0) × (c.mapped_parts.new.operands ≡ r.1)) c.as_slice.ensures h))

pub mapped_condition-returns-in-All : goal.mapped_condition-returns-in-All
mapped_condition-returns-in-All g t c =
    let M = g.M.LeavesInOrder in
    let s = c.args.operands.now in
    made_of c.mapped_parts-in-All.result c.map-in-All.result condition.All _ _ c.map-in-All.ensures.cases c.mapped_parts-in-All.ensures
    (λ all h. all_is _ _ _ M.given M.next c.in-All.parts c.args.condition.now s _ _ c.in-All.is
    (subst (λ ps. let r = all_made _ _ _ M.given M.next ps s in (all ≡ r.0) × (c.mapped_parts-in-All.new.operands ≡ r.1)) c.as_slice-in-All.ensures h))

pub mapped_condition-returns-in_ok-part-in-Not : goal.mapped_condition-returns-in_ok-part-in-Not
mapped_condition-returns-in_ok-part-in-Not g t c =
    let made = rw c.get.ensures at c.in_ok-part-in-Not.ensures in
    is_due _ _ _ g.M.LeavesInOrder.given g.M.LeavesInOrder.next c.args.condition.now (Condition-F.Not c.in-Not.part) c.args.operands.now c.map-in-Not.result _ c.in-Not.is
    (made_of c.new.result c.map-in-Not.result condition.Not _ _ c.map-in-Not.ensures.cases c.new.ensures (λ part h. (ap condition.Not (h ∙ made.0), made.1)))

pub mapped_condition-returns-in-IsNull : goal.mapped_condition-returns-in-IsNull
mapped_condition-returns-in-IsNull g t c = is_due _ _ _ g.M.LeavesInOrder.given g.M.LeavesInOrder.next c.args.condition.now (Condition-F.IsNull c.in-IsNull.operand c.in-IsNull.negated) c.args.operands.now c.mapped_null.result _ c.in-IsNull.is c.mapped_null.ensures

pub mapped_condition-mapped_parts-requires-in-All : goal.mapped_condition-mapped_parts-requires-in-All
mapped_condition-mapped_parts-requires-in-All g t c = let e = all_size _ c.args.condition.now c.as_slice-in-All.result.now (c.in-All.is ∙ ap condition.All (sym c.as_slice-in-All.ensures)) in λ κs h. (omega arith, (h.0, (h.1.0, (h.1.1, subst (λ ps. list_all g.M.LeavesInOrder.taken (concat (map (operands _) ps)) ≡ true) (sym c.as_slice-in-All.ensures) (of_condition _ g.M.LeavesInOrder.taken c.args.condition.now c.requires (Condition-F.All c.in-All.parts) (c.in-All.is ∙ sym (rolls-All c.in-All.parts)))))))

pub mapped_parts-mapped_condition-requires : goal.mapped_parts-mapped_condition-requires
mapped_parts-mapped_condition-requires g t c = let e = item_size (size-Condition _) c.args.parts.now c.loop-part.part-index c.part-item.result c.loop-part-test.true c.part-item.is in λ κs h. (omega arith, (h.0, (h.1.0, (h.1.1, in_part g.M.LeavesInOrder.taken (operands _) c.args.parts.now c.loop-part.part-index c.part-item.result c.loop-part-test.true c.part-item.is c.requires))))

pub mapped_condition-mapped_parts-requires : goal.mapped_condition-mapped_parts-requires
mapped_condition-mapped_parts-requires g t c = let e = any_size _ c.args.condition.now c.as_slice.result.now (c.in-Any.is ∙ ap condition.Any (sym c.as_slice.ensures)) in λ κs h. (omega arith, (h.0, (h.1.0, (h.1.1, subst (λ ps. list_all g.M.LeavesInOrder.taken (concat (map (operands _) ps)) ≡ true) (sym c.as_slice.ensures) (of_condition _ g.M.LeavesInOrder.taken c.args.condition.now c.requires (Condition-F.Any c.in-Any.parts) (c.in-Any.is ∙ sym (rolls-Any c.in-Any.parts)))))))

pub mapped_condition-mapped_condition-requires : goal.mapped_condition-mapped_condition-requires
mapped_condition-mapped_condition-requires g t c = let e = not_size _ c.args.condition.now c.get.result.now (c.in-Not.is ∙ ap condition.Not (sym c.get.ensures)) in λ κs h. (omega arith, (h.0, (h.1.0, (h.1.1, subst (λ part. list_all g.M.LeavesInOrder.taken (operands _ part) ≡ true) (sym c.get.ensures) (of_condition _ g.M.LeavesInOrder.taken c.args.condition.now c.requires (Condition-F.Not c.in-Not.part) c.in-Not.is)))))

pub mapped_condition-mapped_compare-requires-clause-left : goal.mapped_condition-mapped_compare-requires-clause-left
mapped_condition-mapped_compare-requires-clause-left g t c = (both _ _ (of_condition _ g.M.LeavesInOrder.taken c.args.condition.now c.requires (Condition-F.Compare c.in-Compare.op c.in-Compare.a c.in-Compare.b) c.in-Compare.is)).0
