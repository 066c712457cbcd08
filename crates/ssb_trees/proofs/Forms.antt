-- What is made of a condition, by its form.
use Rattle.std.proofs.Common.{◌≡◌, List, Result, ap, refl, subst, sym, ◌∙◌}
use Rattle.std.specs.Result.{IfOk}
use Rattle.ssb_trees.specs.Conditions.{in_order, in_order_layer, operands, operands_layer}
use Rattle.ssb_trees.specs.declared.condition.Condition.{Condition}
use Rattle.ssb_trees.specs.declared.condition.Condition.TheVariants as condition
use Rattle.ssb_trees.specs.declared.condition.Condition.TheOpen.{Condition-F}
use Rattle.ssb_trees.specs.declared.condition.Condition.TheFolds.{fold-roll-Condition, map-Condition}
use Rattle.ssb_trees.specs.declared.condition.Condition.TheViews.{roll-Condition}

-- the condition of a form
abbrev pub of_form : (O : Type 0) → Condition-F O (Condition O) → Condition O
of_form O (Condition-F.Any parts) = roll-Condition O (Condition-F.Any parts)
of_form O (Condition-F.All parts) = roll-Condition O (Condition-F.All parts)
of_form O (Condition-F.Not part) = condition.Not part
of_form O (Condition-F.Compare op a b) = condition.Compare op a b
of_form O (Condition-F.Between x a b negated) = condition.Between x a b negated
of_form O (Condition-F.In x literals negated) = condition.In x literals negated
of_form O (Condition-F.IsNull x negated) = condition.IsNull x negated

pub rolls : (O : Type 0) (x : Condition-F O (Condition O)) → of_form O x ≡ roll-Condition O x
unfolding roll-Condition denote.Hole.Carrier.roll
rolls O (Condition-F.Any parts) = refl
rolls O (Condition-F.All parts) = refl
rolls O (Condition-F.Not part) = refl
rolls O (Condition-F.Compare op a b) = refl
rolls O (Condition-F.Between x a b negated) = refl
rolls O (Condition-F.In x literals negated) = refl
rolls O (Condition-F.IsNull x negated) = refl

pub operands_of : (O : Type 0) (c : Condition O) (x : Condition-F O (Condition O)) → c ≡ of_form O x → operands O c ≡ operands_layer O (map-Condition O (Condition O) (List O) (operands O) x)
operands_of O c x is = ap (operands O) (is ∙ rolls O x) ∙ fold-roll-Condition O (List O) (operands_layer O) x

in_order_of : (O P S : Type 0) (given : S → O → P) (next : S → O → S) (c : Condition O) (x : Condition-F O (Condition O)) (s : S) → c ≡ of_form O x
    → in_order O P S given next c s ≡ in_order_layer O P S given next (map-Condition O (Condition O) (S → Condition P × S) (in_order O P S given next) x) s
in_order_of O P S given next c x s is = ap (λ d. in_order O P S given next d s) (is ∙ rolls O x) ∙ ap (λ make. make s) (fold-roll-Condition O (S → Condition P × S) (in_order_layer O P S given next) x)

-- what was made is what is due, where it is so by the form
pub is_due : (O P S : Type 0) (given : S → O → P) (next : S → O → S) (c : Condition O) (x : Condition-F O (Condition O)) (s : S) {E : Type 0} (made : Result (Condition P) E) (t : S) → c ≡ of_form O x
    → IfOk made (λ d. let r = in_order_layer O P S given next (map-Condition O (Condition O) (S → Condition P × S) (in_order O P S given next) x) s in (d ≡ r.0) × (t ≡ r.1))
    → IfOk made (λ d. let r = in_order O P S given next c s in (d ≡ r.0) × (t ≡ r.1))
is_due O P S given next c x s made t is = subst (λ r. IfOk made (λ d. (d ≡ r.0) × (t ≡ r.1))) (sym (in_order_of O P S given next c x s is))
