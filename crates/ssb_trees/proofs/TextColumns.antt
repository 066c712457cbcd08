-- A text is a column: a sign or an operation gives a number, or has no type.
use Rattle.std.proofs.Common.{◌≡◌, Bool, true, false, Option, Some, sym, subst, ap, ◌∙◌}
use Rattle.ssb_terms.specs.declared.rule.ColType.{ColType}
use Rattle.ssb_terms.specs.declared.rule.ColType.TheVariants as kinds
use Rattle.ssb_trees.specs.declared.expr.Expr.{Expr}
use Rattle.ssb_trees.specs.declared.expr.Expr.TheOpen.{Expr-F}
use Rattle.ssb_trees.specs.declared.expr.Expr.TheFolds.{fold-roll-Expr, map-Expr}
use Rattle.ssb_trees.specs.declared.expr.Expr.TheVariants.{rolls-Column}
use Rattle.ssb_trees.specs.declared.expr.Expr.TheViews.{out-Expr, roll-Expr, roll-out-Expr}
use Rattle.ssb_trees.specs.declared.expr.Step.{Step}
use Rattle.ssb_trees.specs.Types.{number_if, type_of, type_layer, type_of_step, step_layer, IsTextColumn, Kinds}

no_text : (b : Bool) → number_if b ≡ Some kinds.Text → ⊥
no_text true h = absurd cc
no_text false h = absurd cc

module _ (C : Type 0) (kind : Kinds C) where
  abbrev Layer : Type 0
  Layer = Expr-F C (Expr C) (Step C)

  abbrev IsText : Expr C → Type 0
  IsText e = type_of kind e ≡ Some kinds.Text

  of_layer : (x : Layer) → type_of kind (roll-Expr C x) ≡ type_layer kind (map-Expr C (Expr C) (Step C) (Option ColType) (Option ColType) (type_of kind) (type_of_step kind) x)
  of_layer = fold-roll-Expr C (Option ColType) (Option ColType) (type_layer kind) step_layer

  by_layer : (x : Layer) → IsText (roll-Expr C x) → IsTextColumn kind (roll-Expr C x)
  by_layer (Expr-F.Column x) h = (x, rolls-Column x, sym (of_layer (Expr-F.Column x)) ∙ h)
  by_layer (Expr-F.Number n) h = let g = sym (of_layer (Expr-F.Number n)) ∙ h in absurd cc
  by_layer (Expr-F.Positive part) h = absurd (no_text _ (sym (of_layer (Expr-F.Positive part)) ∙ h))
  by_layer (Expr-F.Negative part) h = absurd (no_text _ (sym (of_layer (Expr-F.Negative part)) ∙ h))
  by_layer (Expr-F.Chain first steps) h = absurd (no_text _ (sym (of_layer (Expr-F.Chain first steps)) ∙ h))
  by_layer (Expr-F.Times factors) h = absurd (no_text _ (sym (of_layer (Expr-F.Times factors)) ∙ h))

  pub text_is_column : (e : Expr C) → IsText e → IsTextColumn kind e
  text_is_column e h = subst (IsTextColumn kind) (roll-out-Expr C e) (by_layer (out-Expr C e) (ap (type_of kind) (roll-out-Expr C e) ∙ h))
