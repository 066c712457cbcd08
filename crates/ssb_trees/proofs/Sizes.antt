-- How deep a tree is, by its form: what a recursion goes down by.
use Rattle.std.proofs.Common.{◌≡◌, ℕ, ◌+◌, ◌<◌, ◌≤◌, max, List, length, get_or, subst, sym, ap, ◌∙◌}
use denote.Param.Weighed.{at_most, max_none, most, none_max}
use Rattle.ssb_trees.specs.declared.condition.Condition.{Condition}
use Rattle.ssb_trees.specs.declared.condition.Condition.TheVariants as condition
use Rattle.ssb_trees.specs.declared.condition.Condition.TheViews.{size-Condition, sized-Any, sized-All, sized-Not}
use Rattle.ssb_trees.specs.declared.expr.Expr.{Expr}
use Rattle.ssb_trees.specs.declared.expr.Expr.TheVariants as expr
use Rattle.ssb_trees.specs.declared.expr.Expr.TheViews.{size-Expr, size-Step, size_is-Step, sized-Positive, sized-Negative, sized-Chain, sized-Times}
use Rattle.ssb_trees.specs.declared.expr.Step.{Step}

-- of a list, no item is deeper than the deepest
pub item_size : {X : Type 0} (size : X → ℕ) (xs : List X) (i : ℕ) (x : X) → i < length xs → x ≡ get_or xs i x → size x ≤ most size xs
item_size size xs i x below is = subst (λ y. size y ≤ most size xs) (sym is) (at_most size xs i x below)

module _ (O : Type 0) where
  pub not_size : (c part : Condition O) → c ≡ condition.Not part → size-Condition O c ≡ size-Condition O part + 1
  not_size c part is = ap (size-Condition O) is ∙ sized-Not O part ∙ ap (λ n. n + 1) (max_none (size-Condition O part))

  pub any_size : (c : Condition O) (parts : List (Condition O)) → c ≡ condition.Any parts → size-Condition O c ≡ most (size-Condition O) parts + 1
  any_size c parts is = ap (size-Condition O) is ∙ sized-Any O parts ∙ ap (λ n. n + 1) (max_none (most (size-Condition O) parts))

  pub all_size : (c : Condition O) (parts : List (Condition O)) → c ≡ condition.All parts → size-Condition O c ≡ most (size-Condition O) parts + 1
  all_size c parts is = ap (size-Condition O) is ∙ sized-All O parts ∙ ap (λ n. n + 1) (max_none (most (size-Condition O) parts))

module _ (C : Type 0) where
  pub positive_size : (e part : Expr C) → e ≡ expr.Positive part → size-Expr C e ≡ size-Expr C part + 1
  positive_size e part is = ap (size-Expr C) is ∙ sized-Positive C part ∙ ap (λ n. n + 1) (max_none (size-Expr C part))

  pub negative_size : (e part : Expr C) → e ≡ expr.Negative part → size-Expr C e ≡ size-Expr C part + 1
  negative_size e part is = ap (size-Expr C) is ∙ sized-Negative C part ∙ ap (λ n. n + 1) (max_none (size-Expr C part))

  pub times_size : (e : Expr C) (factors : List (Expr C)) → e ≡ expr.Times factors → size-Expr C e ≡ most (size-Expr C) factors + 1
  times_size e factors is = ap (size-Expr C) is ∙ sized-Times C factors ∙ ap (λ n. n + 1) (max_none (most (size-Expr C) factors))

  pub chain_size : (e first : Expr C) (steps : List (Step C)) → e ≡ expr.Chain first steps → size-Expr C e ≡ max (size-Expr C first) (most (size-Step C) steps) + 1
  chain_size e first steps is = ap (size-Expr C) is ∙ sized-Chain C first steps ∙ ap (λ n. max (size-Expr C first) n + 1) (max_none (most (size-Step C) steps))

  pub step_size : (s : Step C) → size-Step C s ≡ size-Expr C s.term + 1
  step_size s = size_is-Step C s ∙ ap (λ n. max 0 n + 1) (max_none (size-Expr C s.term)) ∙ ap (λ n. n + 1) (sym (none_max (size-Expr C s.term)))
