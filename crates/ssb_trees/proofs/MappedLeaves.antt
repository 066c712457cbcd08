-- The leaves of a tree over other leaves are those that each leaf becomes.
use Rattle.std.proofs.Common.{◌≡◌, List, [], ◌∷◌, ◌++◌, map, refl, sym, ap, ap₂, subst, ◌∙◌}
use Rattle.std.proofs.lemmas.List.{map-append}
use Rattle.ssb_trees.specs.Conditions as conditions
use Rattle.ssb_trees.specs.Conditions.{operands, operands_layer}
use Rattle.ssb_trees.specs.Expressions.{aggregate_columns, columns, columns_layer, mapped, mapped_aggregate, mapped_step, step_columns, step_columns_layer}
use Rattle.ssb_trees.specs.Lists.{concat}
use Rattle.ssb_trees.specs.declared.aggregate.Aggregate.{Aggregate}
use Rattle.ssb_trees.specs.declared.aggregate.Aggregate.TheVariants as aggregate
use Rattle.ssb_trees.specs.declared.condition.Condition.{Condition}
use Rattle.ssb_trees.specs.declared.condition.Condition.TheOpen.{Condition-F}
use Rattle.ssb_trees.specs.declared.condition.Condition.TheFolds.{fold-roll-Condition, ind-Condition, map-Condition}
use Rattle.ssb_trees.specs.declared.condition.Condition.TheViews.{roll-Condition}
use Rattle.ssb_trees.specs.declared.expr.Expr.{Expr}
use Rattle.ssb_trees.specs.declared.expr.Expr.TheOpen.{Expr-F, Step-F}
use Rattle.ssb_trees.specs.declared.expr.Expr.TheFolds.{fold-Expr, fold-Step, fold-roll-Expr, fold_out-Step, ind-Expr, map-Expr, map-Step}
use Rattle.ssb_trees.specs.declared.expr.Expr.TheViews.{roll-Expr, roll-Step}
use Rattle.ssb_trees.specs.declared.expr.Step.{Step}
use Rattle.ssb_trees.proofs.Forms as forms
use Rattle.ssb_trees.proofs.Relabelled.{fold_mapped, relabelled, relabelled_step}

concat-map : {A B : Type 0} (f : A → B) (xs : List (List A)) → map f (concat xs) ≡ concat (map (map f) xs)
concat-map f [] = refl
concat-map f (x ∷ xs) = map-append f x (concat xs) ∙ ap (λ ys. map f x ++ ys) (concat-map f xs)

-- ---- the columns of an expression

module _ (C D : Type 0) (f : C → D) where
  abbrev layer : Expr-F C (List D) (List D) → List D
  layer x = columns_layer D (relabelled C D (List D) (List D) f (columns_layer D) (step_columns_layer D) x)

  abbrev step_layer : Step-F C (List D) (List D) → List D
  step_layer s = s.term

  abbrev IsMap : Expr C → Type 0
  IsMap e = fold-Expr C (List D) (List D) layer step_layer e ≡ map f (columns C e)

  abbrev IsStepMap : Step C → Type 0
  IsStepMap s = fold-Step C (List D) (List D) layer step_layer s ≡ map f (step_columns C s)

  abbrev Es : Type 0
  Es = (e : Expr C) × IsMap e

  abbrev Ss : Type 0
  Ss = (s : Step C) × IsStepMap s

  each_factor : (es : List Es) → map (fold-Expr C (List D) (List D) layer step_layer) (map (λ e. e.0) es) ≡ map (map f) (map (columns C) (map (λ e. e.0) es))
  each_factor [] = refl
  each_factor (e ∷ es) = ap₂ (λ a xs. a ∷ xs) e.1 (each_factor es)

  each_step : (ss : List Ss) → map (fold-Step C (List D) (List D) layer step_layer) (map (λ s. s.0) ss) ≡ map (map f) (map (step_columns C) (map (λ s. s.0) ss))
  each_step [] = refl
  each_step (s ∷ ss) = ap₂ (λ a xs. a ∷ xs) s.1 (each_step ss)

  by_layer : (x : Expr-F C (Expr C) (Step C))
      → layer (map-Expr C (Expr C) (Step C) (List D) (List D) (fold-Expr C (List D) (List D) layer step_layer) (fold-Step C (List D) (List D) layer step_layer) x)
      ≡ map f (columns_layer C (map-Expr C (Expr C) (Step C) (List C) (List C) (columns C) (step_columns C) x))
      → IsMap (roll-Expr C x)
  by_layer x h = fold-roll-Expr C (List D) (List D) layer step_layer x ∙ h ∙ sym (ap (map f) (fold-roll-Expr C (List C) (List C) (columns_layer C) (step_columns_layer C) x))

  cases : (y : Expr-F C Es Ss) → IsMap (roll-Expr C (map-Expr C Es Ss (Expr C) (Step C) (λ e. e.0) (λ s. s.0) y))
  cases (Expr-F.Column x) = by_layer (Expr-F.Column x) refl
  cases (Expr-F.Number n) = by_layer (Expr-F.Number n) refl
  cases (Expr-F.Positive e) = by_layer (Expr-F.Positive e.0) e.1
  cases (Expr-F.Negative e) = by_layer (Expr-F.Negative e.0) e.1
  cases (Expr-F.Chain e ss) =
      by_layer (Expr-F.Chain e.0 (map (λ s. s.0) ss))
      (ap₂ (λ a bs. a ++ concat bs) e.1 (each_step ss)
      ∙ sym (map-append f (columns C e.0) (concat (map (step_columns C) (map (λ s. s.0) ss))) ∙ ap (λ ys. map f (columns C e.0) ++ ys) (concat-map f (map (step_columns C) (map (λ s. s.0) ss)))))
  cases (Expr-F.Times es) = by_layer (Expr-F.Times (map (λ e. e.0) es)) (ap concat (each_factor es) ∙ sym (concat-map f (map (columns C) (map (λ e. e.0) es))))

  step_case : (s : Step C) → IsMap s.term → IsStepMap s
  step_case s h = fold_out-Step C (List D) (List D) layer step_layer s ∙ h ∙ sym (ap (map f) (fold_out-Step C (List C) (List C) (columns_layer C) (step_columns_layer C) s))

  is_map : (e : Expr C) → IsMap e
  is_map =
      ind-Expr C IsMap IsStepMap
      (λ x y is. subst (λ z. IsMap (roll-Expr C z)) is (cases y))
      (λ x y is. subst (λ z. IsStepMap (roll-Step C z)) is (step_case (roll-Step C (map-Step C Es Ss (Expr C) (Step C) (λ e. e.0) (λ s. s.0) y)) y.term.1))

  pub columns_mapped : (e : Expr C) → columns D (mapped C D f e) ≡ map f (columns C e)
  columns_mapped e = fold_mapped C D (List D) (List D) f (columns_layer D) (step_columns_layer D) e ∙ is_map e

pub aggregate_columns_mapped : {C D : Type 0} (f : C → D) (a : Aggregate C) → aggregate_columns (mapped_aggregate f a) ≡ map f (aggregate_columns a)
aggregate_columns_mapped f aggregate.Rows = refl
aggregate_columns_mapped {C} {D} f (aggregate.Of function e) = columns_mapped C D f e

-- ---- the operands of a condition

module _ (O P : Type 0) (f : O → P) where
  abbrev AreMap : Condition O → Type 0
  AreMap c = operands P (conditions.mapped O P f c) ≡ map f (operands O c)

  abbrev Cs : Type 0
  Cs = (c : Condition O) × AreMap c

  each_part : (cs : List Cs) → map (operands P) (map (conditions.mapped O P f) (map (λ c. c.0) cs)) ≡ map (map f) (map (operands O) (map (λ c. c.0) cs))
  each_part [] = refl
  each_part (c ∷ cs) = ap₂ (λ a xs. a ∷ xs) c.1 (each_part cs)

  parts_are : (cs : List Cs) → concat (map (operands P) (map (conditions.mapped O P f) (map (λ c. c.0) cs))) ≡ map f (concat (map (operands O) (map (λ c. c.0) cs)))
  parts_are cs = ap concat (each_part cs) ∙ sym (concat-map f (map (operands O) (map (λ c. c.0) cs)))

  of_condition : (x : Condition-F O (Condition O)) → operands P (conditions.mapped_layer O P f (map-Condition O (Condition O) (Condition P) (conditions.mapped O P f) x)) ≡ map f (operands_layer O (map-Condition O (Condition O) (List O) (operands O) x))
      → AreMap (roll-Condition O x)
  of_condition x h = ap (operands P) (fold-roll-Condition O (Condition P) (conditions.mapped_layer O P f) x) ∙ h ∙ sym (ap (map f) (fold-roll-Condition O (List O) (operands_layer O) x))

  form_is : (x : Condition-F P (Condition P)) → operands P (forms.of_form P x) ≡ operands_layer P (map-Condition P (Condition P) (List P) (operands P) x)
  form_is x = forms.operands_of P (forms.of_form P x) x refl

  condition_cases : (y : Condition-F O Cs) → AreMap (roll-Condition O (map-Condition O Cs (Condition O) (λ c. c.0) y))
  unfolding roll-Condition denote.Hole.Carrier.roll
  condition_cases (Condition-F.Any cs) = of_condition (Condition-F.Any (map (λ c. c.0) cs)) (form_is (Condition-F.Any (map (conditions.mapped O P f) (map (λ c. c.0) cs))) ∙ parts_are cs)
  condition_cases (Condition-F.All cs) = of_condition (Condition-F.All (map (λ c. c.0) cs)) (form_is (Condition-F.All (map (conditions.mapped O P f) (map (λ c. c.0) cs))) ∙ parts_are cs)
  condition_cases (Condition-F.Not c) = of_condition (Condition-F.Not c.0) (form_is (Condition-F.Not (conditions.mapped O P f c.0)) ∙ c.1)
  condition_cases (Condition-F.Compare op a b) = of_condition (Condition-F.Compare op a b) (form_is (Condition-F.Compare op (f a) (f b)))
  condition_cases (Condition-F.Between x a b negated) = of_condition (Condition-F.Between x a b negated) (form_is (Condition-F.Between (f x) (f a) (f b) negated))
  condition_cases (Condition-F.In x ls negated) = of_condition (Condition-F.In x ls negated) (form_is (Condition-F.In (f x) ls negated))
  condition_cases (Condition-F.IsNull x negated) = of_condition (Condition-F.IsNull x negated) (form_is (Condition-F.IsNull (f x) negated))

  pub operands_mapped : (c : Condition O) → operands P (conditions.mapped O P f c) ≡ map f (operands O c)
  operands_mapped = ind-Condition O AreMap (λ x y is. subst (λ z. AreMap (roll-Condition O z)) is (condition_cases y))
