use Rattle.std.proofs.Common.{◌∙◌, arith, ap, sym, take, true}
use Rattle.std.proofs.lemmas.List.{take_all}
use Rattle.ssb_cells.specs.Truth.{not, truth}
use Rattle.ssb_trees.proofs.Sizes.{all_size, any_size}
use Rattle.ssb_trees.specs.declared.condition.Condition.TheOpen.{Condition-F}
use Rattle.ssb_trees.specs.declared.condition.Condition.TheVariants as condition
use Rattle.ssb_trees.specs.declared.condition.Condition.TheVariants.{rolls-All, rolls-Any}
use Rattle.ssb_conditions.specs.Holds.{among, between, holds, is_null}
use Rattle.ssb_plan.proofs.Encodings.{each-ok}
use Rattle.ssb_plan.proofs.SetFacts.{form-own, parts-own, take-next, tell-more, tell-none, tell-together, tells-form, tells-negated}
use Rattle.ssb_plan.proofs.sets.+sets.Goals as goal

pub set_of-set_of_all-requires : goal.set_of-set_of_all-requires
set_of-set_of_all-requires t c =
    let e = any_size _ c.args.condition.now c.as_slice.result.now (c.in-Any.is ∙ ap condition.Any (sym c.as_slice.ensures)) in
    let own = form-own c.args.x.name c.args.x.values.now c.args.condition.now (Condition-F.Any c.in-Any.parts) (c.in-Any.is ∙ sym (rolls-Any c.in-Any.parts)) c.requires in
    (omega arith, rw c.as_slice.ensures (parts-own c.args.x.name c.in-Any.parts own))

pub set_of-set_of_all-requires-in-All : goal.set_of-set_of_all-requires-in-All
set_of-set_of_all-requires-in-All t c =
    let e = all_size _ c.args.condition.now c.as_slice-in-All.result.now (c.in-All.is ∙ ap condition.All (sym c.as_slice-in-All.ensures)) in
    let own = form-own c.args.x.name c.args.x.values.now c.args.condition.now (Condition-F.All c.in-All.parts) (c.in-All.is ∙ sym (rolls-All c.in-All.parts)) c.requires in
    (omega arith, rw c.as_slice-in-All.ensures (parts-own c.args.x.name c.in-All.parts own))

pub set_of-returns-in_ok-set_of-in-Not : goal.set_of-returns-in_ok-set_of-in-Not
set_of-returns-in_ok-set_of-in-Not t c =
    let part = rw c.get.ensures at c.in_ok-set_of-in-Not.ensures in
    tells-form c.args.x.name c.args.x.values.now c.args.condition.now (Condition-F.Not c.in-Not.part) c.negated_if.result c.in-Not.is
    (tells-negated c.args.x.name c.args.x.values.now (λ v. holds v c.in-Not.part) true c.in_ok-set_of-in-Not.field-0 c.negated_if.result part c.negated_if.ensures.null c.negated_if.ensures.values)

pub set_of-returns-in-Compare : goal.set_of-returns-in-Compare
set_of-returns-in-Compare t c =
    each-ok c.comparison.result (λ s. tells-form c.args.x.name c.args.x.values.now c.args.condition.now (Condition-F.Compare c.in-Compare.op c.in-Compare.a c.in-Compare.b) s c.in-Compare.is) c.comparison.ensures

pub set_of-returns-in_ok-span-in-Between : goal.set_of-returns-in_ok-span-in-Between
set_of-returns-in_ok-span-in-Between t c =
    tells-form c.args.x.name c.args.x.values.now c.args.condition.now (Condition-F.Between c.in-Between.operand c.in-Between.low c.in-Between.high c.in-Between.negated) c.negated_if-in-Between.result c.in-Between.is
    (tells-negated c.args.x.name c.args.x.values.now (λ v. between (v c.in-Between.operand) (v c.in-Between.low) (v c.in-Between.high)) c.in-Between.negated c.in_ok-span-in-Between.field-0 c.negated_if-in-Between.result c.in_ok-span-in-Between.ensures c.negated_if-in-Between.ensures.null c.negated_if-in-Between.ensures.values)

pub set_of-returns-in_ok-membership-in-In : goal.set_of-returns-in_ok-membership-in-In
set_of-returns-in_ok-membership-in-In t c =
    let said = rw c.as_slice-in-In.ensures at c.in_ok-membership-in-In.ensures in
    tells-form c.args.x.name c.args.x.values.now c.args.condition.now (Condition-F.In c.in-In.operand c.in-In.literals c.in-In.negated) c.negated_if-in-In.result c.in-In.is
    (tells-negated c.args.x.name c.args.x.values.now (λ v. among (v c.in-In.operand) c.in-In.literals) c.in-In.negated c.in_ok-membership-in-In.field-0 c.negated_if-in-In.result said c.negated_if-in-In.ensures.null c.negated_if-in-In.ensures.values)

pub set_of-returns-in-IsNull : goal.set_of-returns-in-IsNull
set_of-returns-in-IsNull t c =
    tells-form c.args.x.name c.args.x.values.now c.args.condition.now (Condition-F.IsNull c.in-IsNull.operand c.in-IsNull.negated) c.negated_if-in-IsNull.result c.in-IsNull.is
    (tells-negated c.args.x.name c.args.x.values.now (λ v. truth (is_null (v c.in-IsNull.operand))) c.in-IsNull.negated c.null_test.result c.negated_if-in-IsNull.result c.null_test.ensures c.negated_if-in-IsNull.ensures.null c.negated_if-in-IsNull.ensures.values)

pub set_of_all-loop-part-init : goal.set_of_all-loop-part-init
set_of_all-loop-part-init t c =
    rw c.in_ok-sets.ensures.items (tell-none c.args.x.name c.args.x.values.now c.args.by c.not-null.result (c.not-null.ensures ∙ ap not c.settling.ensures))

pub set_of_all-loop-part-preserved : goal.set_of_all-loop-part-preserved
set_of_all-loop-part-preserved t c =
    let grown = take-next c.args.parts.now c.loop-part.part-index c.part-item.result c.loop-part-test.true c.part-item.is in
    rw (grown, c.in_ok-push.ensures.items) (tell-more c.args.x.name c.args.x.values.now c.args.by (take c.loop-part.part-index c.args.parts.now) c.part-item.result c.loop-part.null c.either-null.result c.loop-part.sets.items c.in_ok-set.set c.loop-part.invariant c.in_ok-set.ensures c.either-null.ensures)

pub set_of_all-returns : goal.set_of_all-returns
set_of_all-returns t c =
    let many = rw (take_all c.loop-part.part-index c.args.parts.now c.loop-part-test.false) at c.loop-part.invariant in
    tell-together c.args.x.name c.args.x.values.now c.args.by c.args.parts.now c.loop-part.null c.loop-part.sets.items c.in_ok-numbers.numbers many (rw c.deref.ensures.value at c.in_ok-numbers.ensures)
