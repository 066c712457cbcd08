-- What is made of an expression, by its form.
use Rattle.std.proofs.Common.{◌≡◌, List, ap, refl, sym, ◌∙◌}
use Rattle.ssb_trees.specs.Expressions.{columns, columns_layer, mapped, mapped_layer, mapped_step, mapped_step_layer, step_columns, step_columns_layer}
use Rattle.ssb_trees.specs.declared.expr.Expr.{Expr}
use Rattle.ssb_trees.specs.declared.expr.Expr.TheVariants as expr
use Rattle.ssb_trees.specs.declared.expr.Expr.TheVariants.{rolls-Chain, rolls-Times}
use Rattle.ssb_trees.specs.declared.expr.Expr.TheOpen.{Expr-F}
use Rattle.ssb_trees.specs.declared.expr.Expr.TheFolds.{fold-roll-Expr, map-Expr}
use Rattle.ssb_trees.specs.declared.expr.Expr.TheViews.{roll-Expr}
use Rattle.ssb_trees.specs.declared.expr.Step.{Step}

-- the expression of a form
abbrev pub of_form : (C : Type 0) → Expr-F C (Expr C) (Step C) → Expr C
of_form C (Expr-F.Column x) = expr.Column x
of_form C (Expr-F.Number n) = expr.Number n
of_form C (Expr-F.Positive part) = expr.Positive part
of_form C (Expr-F.Negative part) = expr.Negative part
of_form C (Expr-F.Chain first steps) = expr.Chain first steps
of_form C (Expr-F.Times factors) = expr.Times factors

pub rolls : (C : Type 0) (x : Expr-F C (Expr C) (Step C)) → of_form C x ≡ roll-Expr C x
unfolding roll-Expr denote.Hole.Carrier.roll
rolls C (Expr-F.Column x) = refl
rolls C (Expr-F.Number n) = refl
rolls C (Expr-F.Positive part) = refl
rolls C (Expr-F.Negative part) = refl
rolls C (Expr-F.Chain first steps) = sym (rolls-Chain first steps)
rolls C (Expr-F.Times factors) = sym (rolls-Times factors)

pub mapped_of : (C D : Type 0) (f : C → D) (e : Expr C) (x : Expr-F C (Expr C) (Step C)) → e ≡ of_form C x
    → mapped C D f e ≡ mapped_layer C D f (map-Expr C (Expr C) (Step C) (Expr D) (Step D) (mapped C D f) (mapped_step C D f) x)
mapped_of C D f e x is = ap (mapped C D f) (is ∙ rolls C x) ∙ fold-roll-Expr C (Expr D) (Step D) (mapped_layer C D f) (mapped_step_layer C D) x

pub columns_of : (C : Type 0) (e : Expr C) (x : Expr-F C (Expr C) (Step C)) → e ≡ of_form C x
    → columns C e ≡ columns_layer C (map-Expr C (Expr C) (Step C) (List C) (List C) (columns C) (step_columns C) x)
columns_of C e x is = ap (columns C) (is ∙ rolls C x) ∙ fold-roll-Expr C (List C) (List C) (columns_layer C) (step_columns_layer C) x
