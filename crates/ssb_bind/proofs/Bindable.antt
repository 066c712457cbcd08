-- A select of which no name is wrong, and no column ungrouped, can be bound.
use Rattle.std.proofs.Common.{◌≡◌, ℕ, zero, suc, ◌+◌, ◌<◌, Bool, true, false, cond, not, ◌&&◌, List, [], ◌∷◌, ◌++◌, length, get_or, map, find, Option, Some, None, refl, sym, ap, ap₂, ◌∙◌, arith}
use Rattle.std.specs.List.{All, list_all}
use Rattle.std.specs.Option.{is_some}
use Rattle.ssb_catalog.proofs.Choices.{cond-none}
use Rattle.ssb_trees.proofs.Taken.{both, in_both}
use Rattle.ssb_trees.specs.Conditions.{Filter, filter_columns, operand_columns, operands}
use Rattle.ssb_trees.specs.Lists.{concat}
use Rattle.ssb_trees.specs.declared.operand.Operand.{Operand}
use Rattle.ssb_trees.specs.declared.operand.Operand.TheVariants as operand
use Rattle.ssb_bind.proofs.Finding.{none_both}
use Rattle.ssb_bind.specs.Binding.{filter_operands, is_bindable_operand, is_bindable_output, is_one, IsBindable}
use Rattle.ssb_bind.specs.Bound.{the_column}
use Rattle.ssb_bind.specs.Columns.{is_wrong_fit}
use Rattle.ssb_bind.specs.Faults.{not_grouped, wrong_name}
use Rattle.ssb_bind.specs.Meaning.{FitsOne}
use Rattle.ssb_bind.specs.Names.{column_names, filter_names, itself, operand_names, output_names, ungrouped}
use Rattle.ssb_bind.specs.Orders.{fits_one}
use Rattle.ssb_bind.specs.declared.fit.Fit.{Fit}
use Rattle.ssb_bind.specs.declared.fit.Fit.TheVariants as fit
use Rattle.ssb_bind.specs.declared.fit.Wrong.{Wrong}
use Rattle.ssb_bind.specs.declared.fit.Wrong.TheVariants as wrong
use Rattle.ssb_bind.specs.declared.resolved.Resolved.{Resolved}
use Rattle.ssb_bind.specs.declared.resolved.ResolvedName.{ResolvedName}
use Rattle.ssb_bind.specs.declared.resolved.ResolvedOutput.{ResolvedOutput}
use Rattle.ssb_bind.specs.declared.resolved.ResolvedOutput.TheVariants as output
use Rattle.ssb_query.specs.declared.column.BoundColumn.{BoundColumn}

abbrev is_wrong : Wrong → ResolvedName → Bool
is_wrong w name = is_wrong_fit w name.fit

one_fits : (f : Fit BoundColumn) → is_wrong_fit wrong.Unknown f ≡ false → is_wrong_fit wrong.Ambiguous f ≡ false → fits_one f ≡ true
one_fits fit.Missing e h = absurd cc
one_fits (fit.One x) e h = refl
one_fits fit.Several e h = absurd cc

-- names of which none is wrong fit one column each
pub all_one : (names : List ResolvedName) → find (is_wrong wrong.Unknown) names ≡ None → find (is_wrong wrong.Ambiguous) names ≡ None → list_all is_one names ≡ true
all_one [] e h = refl
all_one (name ∷ names) e h =
    let known = cond-none (is_wrong wrong.Unknown name) name (find (is_wrong wrong.Unknown) names) e in
    let alone = cond-none (is_wrong wrong.Ambiguous name) name (find (is_wrong wrong.Ambiguous) names) h in
    ap₂ (λ a b. a && b) (one_fits name.fit known.0 alone.0) (all_one names known.1 alone.1)

one_is : (name : ResolvedName) (f : Fit BoundColumn) → name.fit ≡ f → fits_one f ≡ true → FitsOne name
one_is name fit.Missing e h = absurd cc
one_is name (fit.One x) e h = e ∙ ap fit.One (sym (ap (λ g. the_column (record { name = name.name; fit = g })) e))
one_is name fit.Several e h = absurd cc

pub each_one : (names : List ResolvedName) → list_all is_one names ≡ true → All FitsOne names
each_one [] e k d below = absurd (omega arith)
each_one (name ∷ names) e zero d below = one_is name name.fit refl (both (is_one name) (list_all is_one names) e).0
each_one (name ∷ names) e (suc k) d below = each_one names (both (is_one name) (list_all is_one names) e).1 k d (omega arith)

-- ---- part by part

abbrev none_ungrouped : List ResolvedName → Type 0
none_ungrouped names = find (λ _. true) names ≡ None

output_is : (o : ResolvedOutput) → list_all is_one (output_names o) ≡ true → none_ungrouped (ungrouped o) → is_bindable_output o ≡ true
output_is (output.Column name None) e h = absurd cc
output_is (output.Column name (Some k)) e h = refl
output_is (output.Aggregate a) e h = e

pub outputs_are : (os : List ResolvedOutput) → list_all is_one (concat (map output_names os)) ≡ true → none_ungrouped (concat (map ungrouped os)) → list_all is_bindable_output os ≡ true
outputs_are [] e h = refl
outputs_are (o ∷ os) e h =
    let one = in_both is_one (output_names o) (concat (map output_names os)) e in
    let none = none_both (λ _. true) (ungrouped o) (concat (map ungrouped os)) h in
    ap₂ (λ a b. a && b) (output_is o one.0 none.0) (outputs_are os one.1 none.1)

columns_are : (os : List (Operand ResolvedName)) → list_all is_one (concat (map (operand_names itself) os)) ≡ true → list_all is_one (concat (map operand_columns os)) ≡ true
columns_are [] e = refl
columns_are (operand.Column name ∷ os) e =
    let h = both (is_one name) (list_all is_one (concat (map (operand_names itself) os))) e in
    ap₂ (λ a b. a && b) h.0 (columns_are os h.1)
columns_are (operand.Literal l ∷ os) e = columns_are os e

having_operand_is : (o : Operand ResolvedOutput) → list_all is_one (operand_names output_names o) ≡ true → none_ungrouped (operand_names ungrouped o) → is_bindable_operand o ≡ true
having_operand_is (operand.Column o) e h = ap (λ b. b && true) (output_is o e h)
having_operand_is (operand.Literal l) e h = refl

having_operands_are : (os : List (Operand ResolvedOutput)) → list_all is_one (concat (map (operand_names output_names) os)) ≡ true → none_ungrouped (concat (map (operand_names ungrouped) os)) → list_all is_bindable_operand os ≡ true
having_operands_are [] e h = refl
having_operands_are (o ∷ os) e h =
    let one = in_both is_one (operand_names output_names o) (concat (map (operand_names output_names) os)) e in
    let none = none_both (λ _. true) (operand_names ungrouped o) (concat (map (operand_names ungrouped) os)) h in
    ap₂ (λ a b. a && b) (having_operand_is o one.0 none.0) (having_operands_are os one.1 none.1)

where_is : (w : Option (Filter ResolvedName)) → list_all is_one (filter_names itself w) ≡ true → list_all is_one (filter_columns w) ≡ true
where_is None e = refl
where_is (Some c) e = columns_are (operands (Operand ResolvedName) c) e

having_is : (h : Option (Filter ResolvedOutput)) → list_all is_one (filter_names output_names h) ≡ true → none_ungrouped (filter_names ungrouped h) → list_all is_bindable_operand (filter_operands h) ≡ true
having_is None e n = refl
having_is (Some c) e n = having_operands_are (operands (Operand ResolvedOutput) c) e n

pub bindable : (r : Resolved) → list_all is_one (column_names r) ≡ true → not_grouped r ≡ None → IsBindable r
bindable r e n =
    let behind = filter_names itself r.condition ++ (r.groups ++ filter_names output_names r.having) in
    let a = in_both is_one (concat (map output_names r.outputs)) behind e in
    let b = in_both is_one (filter_names itself r.condition) (r.groups ++ filter_names output_names r.having) a.1 in
    let c = in_both is_one r.groups (filter_names output_names r.having) b.1 in
    let u = none_both (λ _. true) (concat (map ungrouped r.outputs)) (filter_names ungrouped r.having) n in
    record {
      outputs = outputs_are r.outputs a.0 u.0;
      condition = where_is r.condition b.0;
      groups = c.0;
      having = having_is r.having c.1 u.1;
    }
