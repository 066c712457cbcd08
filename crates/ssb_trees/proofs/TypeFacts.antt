-- The types of the terms of a chain, and of factors, from a place on.
use Rattle.std.proofs.Common.{◌≡◌, ℕ, ◌+◌, ◌<◌, Bool, true, false, ◌&&◌, List, length, get_or, drop, map, Option, sym, ap, ◌∙◌}
use Rattle.std.specs.List.{list_all}
use Rattle.ssb_terms.specs.declared.rule.ColType.{ColType}
use Rattle.ssb_trees.proofs.Finding.{here}
use Rattle.ssb_trees.specs.declared.expr.Expr.{Expr}
use Rattle.ssb_trees.specs.declared.expr.Expr.TheFolds.{fold_out-Step}
use Rattle.ssb_trees.specs.declared.expr.Step.{Step}
use Rattle.ssb_trees.specs.Types.{is_int_type, Kinds, type_of, type_layer, type_of_step, step_layer}

module _ (C : Type 0) (kind : Kinds C) where
  step_is : (s : Step C) → type_of_step kind s ≡ type_of kind s.term
  step_is = fold_out-Step C (Option ColType) (Option ColType) (type_layer kind) step_layer

  abbrev are_numbers : List (Step C) → Bool
  are_numbers ss = list_all is_int_type (map (type_of_step kind) ss)

  pub one_is_none : (ss : List (Step C)) (i : ℕ) (s : Step C) → i < length ss → s ≡ get_or ss i s → is_int_type (type_of kind s.term) ≡ false → are_numbers (drop i ss) ≡ are_numbers ss → false ≡ are_numbers ss
  one_is_none ss i s below e other so_far = sym (ap (λ b. b && are_numbers (drop (i + 1) ss)) (ap is_int_type (step_is s) ∙ other)) ∙ sym (ap are_numbers (here ss i s below e)) ∙ so_far

  pub one_is : (ss : List (Step C)) (i : ℕ) (s : Step C) → i < length ss → s ≡ get_or ss i s → is_int_type (type_of kind s.term) ≡ true → are_numbers (drop i ss) ≡ are_numbers ss → are_numbers (drop (i + 1) ss) ≡ are_numbers ss
  one_is ss i s below e number so_far = sym (ap (λ b. b && are_numbers (drop (i + 1) ss)) (ap is_int_type (step_is s) ∙ number)) ∙ sym (ap are_numbers (here ss i s below e)) ∙ so_far

  abbrev are_number_factors : List (Expr C) → Bool
  are_number_factors xs = list_all is_int_type (map (type_of kind) xs)

  pub factor_is : (xs : List (Expr C)) (i : ℕ) (x : Expr C) (b : Bool) → i < length xs → x ≡ get_or xs i x → b ≡ is_int_type (type_of kind x) → are_number_factors (drop i xs) ≡ are_number_factors xs → b && are_number_factors (drop (i + 1) xs) ≡ are_number_factors xs
  factor_is xs i x b below e is so_far = ap (λ b. b && are_number_factors (drop (i + 1) xs)) is ∙ sym (ap are_number_factors (here xs i x below e)) ∙ so_far
