use Rattle.std.proofs.Common.{◌≡◌, ℕ, ◌+◌, ◌<◌, Bool, true, false, ◌||◌, List, length, get_or, drop, map, refl, sym, ap, ◌∙◌, arith}
use Rattle.std.proofs.lemmas.List.{at_drop_all}
use Rattle.std.specs.List.{list_any}
use Rattle.ssb_trees.specs.Types.{is_mixed}
use Rattle.ssb_trees.proofs.Finding.{here}
use Rattle.ssb_trees.specs.declared.condition.Condition.TheOpen.{Condition-F}
use Rattle.ssb_trees.specs.declared.condition.Condition.TheVariants.{rolls-Any, rolls-All}
use Rattle.ssb_trees.proofs.MixedForms.{mixed_of}
use Rattle.ssb_trees.proofs.Sizes.{all_size, any_size, item_size, not_size}
use Rattle.ssb_trees.specs.declared.condition.Condition.TheViews.{size-Condition}
use Rattle.ssb_trees.specs.declared.condition.Condition.TheVariants as condition
use Rattle.ssb_trees.proofs.types.+condition.Goals as goal

module _ {X : Type 0} (f : X → Bool) where
  abbrev any_is : List X → Bool
  any_is xs = list_any (λ b. b) (map f xs)

  one_more : (xs : List X) (i : ℕ) (x : X) (b : Bool) → i < length xs → x ≡ get_or xs i x → b ≡ f x → any_is (drop i xs) ≡ any_is xs → b || any_is (drop (i + 1) xs) ≡ any_is xs
  one_more xs i x b below e is so_far = ap (λ b. b || any_is (drop (i + 1) xs)) is ∙ sym (ap any_is (here xs i x below e)) ∙ so_far

pub has_mixed_part-returns-then-is_mixed : goal.has_mixed_part-returns-then-is_mixed
has_mixed_part-returns-then-is_mixed g t c =
    one_more (is_mixed (g.K.Kinds.kind c.args.kinds.now)) c.args.parts.now c.loop-part.part-index c.part-item.result true c.loop-part-test.true c.part-item.is (sym c.if-is_mixed.true ∙ c.is_mixed.ensures) c.loop-part.invariant

pub has_mixed_part-loop-part-preserved : goal.has_mixed_part-loop-part-preserved
has_mixed_part-loop-part-preserved g t c =
    one_more (is_mixed (g.K.Kinds.kind c.args.kinds.now)) c.args.parts.now c.loop-part.part-index c.part-item.result false c.loop-part-test.true c.part-item.is (sym c.if-is_mixed.false ∙ c.is_mixed.ensures) c.loop-part.invariant

pub is_mixed-returns-in-Any : goal.is_mixed-returns-in-Any
is_mixed-returns-in-Any g t c = (rw c.as_slice.ensures at c.has_mixed_part.ensures) ∙ sym (mixed_of _ (g.K.Kinds.kind c.args.kinds.now) c.args.condition.now (Condition-F.Any c.in-Any.parts) (c.in-Any.is ∙ sym (rolls-Any c.in-Any.parts)))

pub is_mixed-returns-in-All : goal.is_mixed-returns-in-All
is_mixed-returns-in-All g t c = (rw c.as_slice-in-All.ensures at c.has_mixed_part-in-All.ensures) ∙ sym (mixed_of _ (g.K.Kinds.kind c.args.kinds.now) c.args.condition.now (Condition-F.All c.in-All.parts) (c.in-All.is ∙ sym (rolls-All c.in-All.parts)))

pub is_mixed-returns-in-Not : goal.is_mixed-returns-in-Not
is_mixed-returns-in-Not g t c = (rw c.get.ensures at c.is_mixed.ensures) ∙ sym (mixed_of _ (g.K.Kinds.kind c.args.kinds.now) c.args.condition.now (Condition-F.Not c.in-Not.part) c.in-Not.is)

pub is_mixed-returns-in-Compare : goal.is_mixed-returns-in-Compare
is_mixed-returns-in-Compare g t c = c.are_mixed.ensures ∙ sym (mixed_of _ (g.K.Kinds.kind c.args.kinds.now) c.args.condition.now (Condition-F.Compare c.in-Compare.field-0 c.in-Compare.a c.in-Compare.b) c.in-Compare.is)

pub is_mixed-returns-in-Between : goal.is_mixed-returns-in-Between
is_mixed-returns-in-Between g t c = c.is_mixed_range.ensures ∙ sym (mixed_of _ (g.K.Kinds.kind c.args.kinds.now) c.args.condition.now (Condition-F.Between c.in-Between.operand c.in-Between.low c.in-Between.high c.in-Between.negated) c.in-Between.is)

pub is_mixed-returns-in-In : goal.is_mixed-returns-in-In
is_mixed-returns-in-In g t c = (rw c.as_slice-in-In.ensures at c.is_mixed_list.ensures) ∙ sym (mixed_of _ (g.K.Kinds.kind c.args.kinds.now) c.args.condition.now (Condition-F.In c.in-In.operand c.in-In.literals c.in-In.negated) c.in-In.is)

pub is_mixed-returns-in-IsNull : goal.is_mixed-returns-in-IsNull
is_mixed-returns-in-IsNull g t c = sym (mixed_of _ (g.K.Kinds.kind c.args.kinds.now) c.args.condition.now (Condition-F.IsNull c.in-IsNull.operand c.in-IsNull.negated) c.in-IsNull.is)

pub has_mixed_part-loop-part-init : goal.has_mixed_part-loop-part-init
has_mixed_part-loop-part-init g t c = refl

pub has_mixed_part-returns : goal.has_mixed_part-returns
has_mixed_part-returns g t c = sym (at_drop_all (any_is (is_mixed (g.K.Kinds.kind c.args.kinds.now))) c.args.parts.now c.loop-part.part-index c.loop-part-test.false) ∙ c.loop-part.invariant

pub is_mixed-is_mixed-requires : goal.is_mixed-is_mixed-requires
is_mixed-is_mixed-requires g t c = let e = not_size _ c.args.condition.now c.get.result.now (c.in-Not.is ∙ ap condition.Not (sym c.get.ensures)) in λ κs h. (omega arith, h)

pub is_mixed-has_mixed_part-requires : goal.is_mixed-has_mixed_part-requires
is_mixed-has_mixed_part-requires g t c = let e = any_size _ c.args.condition.now c.as_slice.result.now (c.in-Any.is ∙ ap condition.Any (sym c.as_slice.ensures)) in λ κs h. (omega arith, h)

pub has_mixed_part-is_mixed-requires : goal.has_mixed_part-is_mixed-requires
has_mixed_part-is_mixed-requires g t c = let e = item_size (size-Condition _) c.args.parts.now c.loop-part.part-index c.part-item.result c.loop-part-test.true c.part-item.is in λ κs h. (omega arith, h)

pub is_mixed-has_mixed_part-requires-in-All : goal.is_mixed-has_mixed_part-requires-in-All
is_mixed-has_mixed_part-requires-in-All g t c = let e = all_size _ c.args.condition.now c.as_slice-in-All.result.now (c.in-All.is ∙ ap condition.All (sym c.as_slice-in-All.ensures)) in λ κs h. (omega arith, h)
