-- A fold of an expression over other columns.
use Rattle.std.proofs.Common.{◌≡◌, List, [], ◌∷◌, map, refl, sym, ap, ap₂, subst, ◌∙◌}
use Rattle.ssb_trees.specs.Expressions.{mapped, mapped_layer, mapped_step, mapped_step_layer}
use Rattle.ssb_trees.specs.declared.expr.Expr.{Expr}
use Rattle.ssb_trees.specs.declared.expr.Expr.TheOpen.{Expr-F, Step-F}
use Rattle.ssb_trees.specs.declared.expr.Expr.TheFolds.{fold-Expr, fold-Step, fold-roll-Expr, fold_out-Step, ind-Expr, map-Expr, map-Step}
use Rattle.ssb_trees.specs.declared.expr.Expr.TheViews.{roll-Expr, roll-Step}
use Rattle.ssb_trees.specs.declared.expr.Step.{Step}
use Rattle.ssb_trees.proofs.ExprForms.{rolls}
use Rattle.ssb_trees.proofs.Mapping.{mapped_of_step, with_term}

module _ (C D A B : Type 0) (f : C → D) (layer : Expr-F D A B → A) (step_layer : Step-F D A B → B) where
  -- one form of expression with f of its column
  abbrev pub relabelled : {X Y : Type 0} → Expr-F C X Y → Expr-F D X Y
  relabelled (Expr-F.Column x) = Expr-F.Column (f x)
  relabelled (Expr-F.Number n) = Expr-F.Number n
  relabelled (Expr-F.Positive part) = Expr-F.Positive part
  relabelled (Expr-F.Negative part) = Expr-F.Negative part
  relabelled (Expr-F.Chain first steps) = Expr-F.Chain first steps
  relabelled (Expr-F.Times factors) = Expr-F.Times factors

  abbrev pub relabelled_step : Step-F C A B → Step-F D A B
  relabelled_step s = record { adding = s.adding; term = s.term }

  abbrev over_these : Expr C → A
  over_these = fold-Expr C A B (λ x. layer (relabelled x)) (λ s. step_layer (relabelled_step s))

  abbrev step_over_these : Step C → B
  step_over_these = fold-Step C A B (λ x. layer (relabelled x)) (λ s. step_layer (relabelled_step s))

  abbrev Fuses : Expr C → Type 0
  Fuses e = fold-Expr D A B layer step_layer (mapped C D f e) ≡ over_these e

  abbrev StepFuses : Step C → Type 0
  StepFuses s = fold-Step D A B layer step_layer (mapped_step C D f s) ≡ step_over_these s

  abbrev Es : Type 0
  Es = (e : Expr C) × Fuses e

  abbrev Ss : Type 0
  Ss = (s : Step C) × StepFuses s

  as_roll : (x : Expr-F C (Expr D) (Step D)) → mapped_layer C D f x ≡ roll-Expr D (relabelled x)
  as_roll (Expr-F.Column x) = rolls D (Expr-F.Column (f x))
  as_roll (Expr-F.Number n) = rolls D (Expr-F.Number n)
  as_roll (Expr-F.Positive part) = rolls D (Expr-F.Positive part)
  as_roll (Expr-F.Negative part) = rolls D (Expr-F.Negative part)
  as_roll (Expr-F.Chain first steps) = rolls D (Expr-F.Chain first steps)
  as_roll (Expr-F.Times factors) = rolls D (Expr-F.Times factors)

  by_layer : (x : Expr-F C (Expr C) (Step C))
      → layer (map-Expr D (Expr D) (Step D) A B (fold-Expr D A B layer step_layer) (fold-Step D A B layer step_layer) (relabelled (map-Expr C (Expr C) (Step C) (Expr D) (Step D) (mapped C D f) (mapped_step C D f) x)))
      ≡ layer (relabelled (map-Expr C (Expr C) (Step C) A B over_these step_over_these x))
      → Fuses (roll-Expr C x)
  by_layer x h =
      ap (fold-Expr D A B layer step_layer) (fold-roll-Expr C (Expr D) (Step D) (mapped_layer C D f) (mapped_step_layer C D) x ∙ as_roll (map-Expr C (Expr C) (Step C) (Expr D) (Step D) (mapped C D f) (mapped_step C D f) x))
      ∙ fold-roll-Expr D A B layer step_layer (relabelled (map-Expr C (Expr C) (Step C) (Expr D) (Step D) (mapped C D f) (mapped_step C D f) x))
      ∙ h
      ∙ sym (fold-roll-Expr C A B (λ x. layer (relabelled x)) (λ s. step_layer (relabelled_step s)) x)

  factors_fuse : (es : List Es) → map (fold-Expr D A B layer step_layer) (map (mapped C D f) (map (λ e. e.0) es)) ≡ map over_these (map (λ e. e.0) es)
  factors_fuse [] = refl
  factors_fuse (e ∷ es) = ap₂ (λ a xs. a ∷ xs) e.1 (factors_fuse es)

  steps_fuse : (ss : List Ss) → map (fold-Step D A B layer step_layer) (map (mapped_step C D f) (map (λ s. s.0) ss)) ≡ map step_over_these (map (λ s. s.0) ss)
  steps_fuse [] = refl
  steps_fuse (s ∷ ss) = ap₂ (λ b bs. b ∷ bs) s.1 (steps_fuse ss)

  cases : (y : Expr-F C Es Ss) → Fuses (roll-Expr C (map-Expr C Es Ss (Expr C) (Step C) (λ e. e.0) (λ s. s.0) y))
  cases (Expr-F.Column x) = by_layer (Expr-F.Column x) refl
  cases (Expr-F.Number n) = by_layer (Expr-F.Number n) refl
  cases (Expr-F.Positive e) = by_layer (Expr-F.Positive e.0) (ap (λ a. layer (Expr-F.Positive a)) e.1)
  cases (Expr-F.Negative e) = by_layer (Expr-F.Negative e.0) (ap (λ a. layer (Expr-F.Negative a)) e.1)
  cases (Expr-F.Chain e ss) = by_layer (Expr-F.Chain e.0 (map (λ s. s.0) ss)) (ap₂ (λ a bs. layer (Expr-F.Chain a bs)) e.1 (steps_fuse ss))
  cases (Expr-F.Times es) = by_layer (Expr-F.Times (map (λ e. e.0) es)) (ap (λ xs. layer (Expr-F.Times xs)) (factors_fuse es))

  step_case : (s : Step C) → Fuses s.term → StepFuses s
  step_case s h =
      ap (fold-Step D A B layer step_layer) (mapped_of_step C D f s)
      ∙ fold_out-Step D A B layer step_layer (with_term s (mapped C D f s.term))
      ∙ ap (λ (t : A). step_layer (record { adding = s.adding; term = t })) h
      ∙ sym (fold_out-Step C A B (λ x. layer (relabelled x)) (λ s. step_layer (relabelled_step s)) s)

  -- a fold of the expression with f of each column is the fold that takes f of each
  pub fold_mapped : (e : Expr C) → Fuses e
  fold_mapped =
      ind-Expr C Fuses StepFuses
      (λ x y is. subst (λ z. Fuses (roll-Expr C z)) is (cases y))
      (λ x y is. subst (λ z. StepFuses (roll-Step C z)) is (step_case (roll-Step C (map-Step C Es Ss (Expr C) (Step C) (λ e. e.0) (λ s. s.0) y)) y.term.1))
