-- Leaves that are all taken.
use Rattle.std.proofs.Common.{◌≡◌, ℕ, ◌+◌, ◌<◌, Bool, true, false, ◌&&◌, List, [], ◌∷◌, ◌++◌, length, get_or, drop, map, zero, suc, refl, sym, ap, ◌∙◌, arith}
use Rattle.std.specs.List.{list_all}
use Rattle.ssb_trees.proofs.Columns.{columns_of_step}
use Rattle.ssb_trees.proofs.ExprForms as exprs
use Rattle.ssb_trees.proofs.Forms.{of_form, operands_of}
use Rattle.ssb_trees.specs.Conditions.{operands, operands_layer}
use Rattle.ssb_trees.specs.Expressions.{columns, columns_layer, step_columns}
use Rattle.ssb_trees.specs.Lists.{concat}
use Rattle.ssb_trees.specs.declared.condition.Condition.{Condition}
use Rattle.ssb_trees.specs.declared.condition.Condition.TheOpen.{Condition-F}
use Rattle.ssb_trees.specs.declared.condition.Condition.TheFolds.{map-Condition}
use Rattle.ssb_trees.specs.declared.expr.Expr.{Expr}
use Rattle.ssb_trees.specs.declared.expr.Expr.TheOpen.{Expr-F}
use Rattle.ssb_trees.specs.declared.expr.Expr.TheFolds.{map-Expr}
use Rattle.ssb_trees.specs.declared.expr.Step.{Step}

pub both : (a b : Bool) → (a && b) ≡ true → (a ≡ true) × (b ≡ true)
both true b e = (refl, e)
both false b e = absurd cc

module _ {X : Type 0} (p : X → Bool) where
  -- of two lists both
  pub in_both : (xs ys : List X) → list_all p (xs ++ ys) ≡ true → (list_all p xs ≡ true) × (list_all p ys ≡ true)
  in_both [] ys e = (refl, e)
  in_both (x ∷ xs) ys e =
      let h = both (p x) (list_all p (xs ++ ys)) e in
      let r = in_both xs ys h.1 in
      (ap (λ b. b && list_all p xs) h.0 ∙ r.0, r.1)

-- where each leaf is taken, no one need be asked
pub all_taken : {X : Type 0} (xs : List X) → list_all (λ _. true) xs ≡ true
all_taken [] = refl
all_taken (x ∷ xs) = all_taken xs

module _ {X Y : Type 0} (p : Y → Bool) (f : X → List Y) where
  pub in_part : (xs : List X) (i : ℕ) (x : X) → i < length xs → x ≡ get_or xs i x → list_all p (concat (map f xs)) ≡ true → list_all p (f x) ≡ true
  in_part [] i x below is e = absurd (omega arith)
  in_part (y ∷ xs) zero x below is e = ap (λ z. list_all p (f z)) is ∙ (in_both p (f y) (concat (map f xs)) e).0
  in_part (y ∷ xs) (suc i) x below is e = in_part xs i x (omega arith) is (in_both p (f y) (concat (map f xs)) e).1

  pub in_each : (xs : List X) → list_all p (concat (map f xs)) ≡ true → list_all (λ x. list_all p (f x)) xs ≡ true
  in_each [] e = refl
  in_each (x ∷ xs) e =
      let h = in_both p (f x) (concat (map f xs)) e in
      ap (λ b. b && list_all (λ y. list_all p (f y)) xs) h.0 ∙ in_each xs h.1

module _ (O : Type 0) (p : O → Bool) (c : Condition O) (all : list_all p (operands O c) ≡ true) where
  -- those of a form
  pub of_condition : (x : Condition-F O (Condition O)) → c ≡ of_form O x → list_all p (operands_layer O (map-Condition O (Condition O) (List O) (operands O) x)) ≡ true
  of_condition x is = sym (ap (list_all p) (operands_of O c x is)) ∙ all

module _ (C : Type 0) (p : C → Bool) (e : Expr C) (all : list_all p (columns C e) ≡ true) where
  pub of_expr : (x : Expr-F C (Expr C) (Step C)) → e ≡ exprs.of_form C x → list_all p (columns_layer C (map-Expr C (Expr C) (Step C) (List C) (List C) (columns C) (step_columns C) x)) ≡ true
  of_expr x is = sym (ap (list_all p) (exprs.columns_of C e x is)) ∙ all

-- of a step those of its term
pub of_step : (C : Type 0) (p : C → Bool) (s : Step C) → list_all p (step_columns C s) ≡ true → list_all p (columns C s.term) ≡ true
of_step C p s all = sym (ap (list_all p) (columns_of_step C s)) ∙ all
