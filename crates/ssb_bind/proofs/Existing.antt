-- The columns of a bound query are columns of FROM's tables.
use Rattle.std.proofs.Common.{◌≡◌, ℕ, zero, suc, ◌+◌, Bool, true, false, ◌&&◌, cond, is_some, List, [], ◌∷◌, ◌++◌, length, map, Option, Some, None, slice_get, refl, sym, ap, ap₂, ◌∙◌, append_assoc, length-append, arith}
use Rattle.std.specs.List.{filter_map, cons_option, list_all}
use Rattle.std.specs.Option.{option_map}
use Rattle.std.proofs.lemmas.Option.{slice_get-map}
use Rattle.ssb_catalog.specs.Catalog.{is_column_named}
use Rattle.ssb_catalog.specs.Shapes.{TableShape, rules_of}
use Rattle.ssb_catalog.specs.declared.catalog.ColumnDef.{ColumnDef}
use Rattle.ssb_sql.specs.declared.named.ColumnName.{ColumnName}
use Rattle.ssb_sql.specs.declared.select.Item.{Item}
use Rattle.ssb_sql.specs.declared.select.Output.{Output}
use Rattle.ssb_sql.specs.declared.select.Output.TheVariants as written
use Rattle.ssb_sql.specs.declared.select.Select.{Select}
use Rattle.ssb_trees.proofs.MappedLeaves.{aggregate_columns_mapped, operands_mapped}
use Rattle.ssb_trees.proofs.Taken.{both, in_both}
use Rattle.ssb_trees.specs.Conditions.{Filter, mapped_filter, mapped_operand, operands}
use Rattle.ssb_trees.specs.Expressions.{aggregate_columns, mapped_aggregate}
use Rattle.ssb_trees.specs.Lists.{concat}
use Rattle.ssb_trees.specs.declared.aggregate.Aggregate.{Aggregate}
use Rattle.ssb_trees.specs.declared.operand.Operand.{Operand}
use Rattle.ssb_trees.specs.declared.operand.Operand.TheVariants as operand
use Rattle.ssb_bind.specs.Binding.{filter_operands, is_bindable_operand, is_bindable_output, is_one, IsBindable}
use Rattle.ssb_bind.specs.Bound.{aggregate_of, aggregates_of, having_aggregates, operand_aggregate, the_column}
use Rattle.ssb_bind.specs.Columns.{columns_for, fit_of, fitting, fitting_from, fitting_in, may_be_of}
use Rattle.ssb_bind.specs.Orders.{fits_one}
use Rattle.ssb_bind.specs.Resolved.{output_of, resolved, resolved_groups, resolved_select}
use Rattle.ssb_bind.specs.Rules.{rules_in}
use Rattle.ssb_bind.specs.declared.resolved.ResolvedOutput.{ResolvedOutput}
use Rattle.ssb_query.specs.Star.{are_there, is_there}
use Rattle.ssb_query.specs.Tables.{column_rule, table_of}
use Rattle.ssb_query.specs.declared.column.BoundColumn.{BoundColumn}
use Rattle.ssb_query.specs.declared.query.QueryParts.{QueryParts}
use Rattle.ssb_query.specs.declared.query.TableRules.{TableRules}

seam : {X : Type 0} (front : List X) (x : X) (rest : List X) (at : ℕ) → at ≡ length front → slice_get (front ++ x ∷ rest) at ≡ Some x
seam [] x rest zero e = refl
seam [] x rest (suc at) e = absurd (omega (arith, e))
seam (y ∷ front) x rest zero e = absurd (omega (arith, e))
seam (y ∷ front) x rest (suc at) e = seam front x rest at (omega (arith, e))

module _ {X : Type 0} (p : X → Bool) where
  all_both : (xs ys : List X) → list_all p xs ≡ true → list_all p ys ≡ true → list_all p (xs ++ ys) ≡ true
  all_both [] ys g h = h
  all_both (x ∷ xs) ys g h = let k = both (p x) (list_all p xs) g in ap₂ (λ a b. a && b) k.0 (all_both xs ys k.1 h)

-- ---- a name fits columns that are there

module _ (c : List TableShape) (from : List ℕ) where
  abbrev there : BoundColumn → Bool
  there = is_there (rules_in c) from

  here : (place n at : ℕ) (t : TableShape) (d : ColumnDef) → slice_get from place ≡ Some n → slice_get c n ≡ Some t → slice_get t.columns at ≡ Some d → there (record { table = place; column = at }) ≡ true
  here place n at t d g h k =
      let table : table_of (rules_in c) (slice_get from place) ≡ Some (record { rules = rules_of t }) = ap (table_of (rules_in c)) g ∙ slice_get-map (λ (t : TableShape). record { rules = rules_of t }) c n ∙ ap (option_map (λ (t : TableShape). record { rules = rules_of t })) h in
      ap (λ (o : Option TableRules). is_some (column_rule o at)) table ∙ ap is_some (slice_get-map (λ (d : ColumnDef). d.rule) t.columns at ∙ ap (option_map (λ (d : ColumnDef). d.rule)) k)

  in_table : (name : List ℕ) (place n : ℕ) (t : TableShape) → slice_get from place ≡ Some n → slice_get c n ≡ Some t → (front rest : List ColumnDef) (at : ℕ) → at ≡ length front → t.columns ≡ front ++ rest → list_all there (fitting name place at rest) ≡ true
  in_table name place n t g h front [] at e is = refl
  in_table name place n t g h front (d ∷ ds) at e is =
      by (is_column_named name d) (here place n at t d g h (ap (λ cs. slice_get cs at) is ∙ seam front d ds at e))
      (in_table name place n t g h (front ++ d ∷ []) ds (at + 1) (omega (arith, e, length-append front (d ∷ []))) (is ∙ sym (append_assoc front (d ∷ []) ds)))
    where
      by : (b : Bool) → there (record { table = place; column = at }) ≡ true → list_all there (fitting name place (at + 1) ds) ≡ true
          → list_all there (cond b (record { table = place; column = at } ∷ fitting name place (at + 1) ds) (fitting name place (at + 1) ds)) ≡ true
      by true one rest = ap₂ (λ a b. a && b) one rest
      by false one rest = rest

  in_place : (name : ColumnName) (place n : ℕ) (o : Option TableShape) → slice_get from place ≡ Some n → slice_get c n ≡ o → list_all there (fitting_in name place o) ≡ true
  in_place name place n None g h = refl
  in_place name place n (Some t) g h = by (may_be_of name.table t) (in_table name.column place n t g h [] t.columns 0 refl refl)
    where
      by : (b : Bool) → list_all there (fitting name.column place 0 t.columns) ≡ true → list_all there (cond b (fitting name.column place 0 t.columns) []) ≡ true
      by true all = all
      by false all = refl

  in_places : (name : ColumnName) (front rest : List ℕ) (place : ℕ) → place ≡ length front → from ≡ front ++ rest → list_all there (fitting_from c name place rest) ≡ true
  in_places name front [] place e is = refl
  in_places name front (n ∷ ns) place e is =
      all_both there (fitting_in name place (slice_get c n)) (fitting_from c name (place + 1) ns)
      (in_place name place n (slice_get c n) (ap (λ ns. slice_get ns place) is ∙ seam front n ns place e) refl)
      (in_places name (front ++ n ∷ []) ns (place + 1) (omega (arith, e, length-append front (n ∷ []))) (is ∙ sym (append_assoc front (n ∷ []) ns)))

  all_there : (name : ColumnName) → list_all there (columns_for c from name) ≡ true
  unfolding columns_for
  all_there name = in_places name [] from 0 refl refl

  the_one_is : (xs : List BoundColumn) → list_all there xs ≡ true → fits_one (fit_of xs) ≡ true → there (the_column (record { name = []; fit = fit_of xs })) ≡ true
  the_one_is [] all one = absurd cc
  the_one_is (x ∷ []) all one = (both (there x) true all).0
  the_one_is (x ∷ y ∷ xs) all one = absurd cc

  name_there : (name : ColumnName) → is_one (resolved c from name) ≡ true → there (the_column (resolved c from name)) ≡ true
  name_there name one = the_one_is (columns_for c from name) (all_there name) one

  names_there : (names : List ColumnName) → list_all is_one (map (resolved c from) names) ≡ true → list_all there (map the_column (map (resolved c from) names)) ≡ true
  names_there [] e = refl
  names_there (name ∷ names) e =
      let h = both (is_one (resolved c from name)) (list_all is_one (map (resolved c from) names)) e in
      ap₂ (λ a b. a && b) (name_there name h.0) (names_there names h.1)

  -- ---- aggregates

  aggregate_there : (a : Aggregate ColumnName) → list_all is_one (aggregate_columns (mapped_aggregate (resolved c from) a)) ≡ true → list_all there (aggregate_columns (mapped_aggregate the_column (mapped_aggregate (resolved c from) a))) ≡ true
  aggregate_there a e =
      let names = aggregate_columns_mapped (resolved c from) a in
      ap (list_all there) (aggregate_columns_mapped the_column (mapped_aggregate (resolved c from) a) ∙ ap (map the_column) names)
      ∙ names_there (aggregate_columns a) (sym (ap (list_all is_one) names) ∙ e)

  module _ (s : Select) where
    abbrev given : Output → ResolvedOutput
    given o = output_of c from (resolved_groups c from s) o

    -- those of the aggregate that an output is
    abbrev own : Option (Aggregate BoundColumn) → List BoundColumn
    own a = concat (map aggregate_columns (cons_option a []))

    output_there : (o : Output) → is_bindable_output (given o) ≡ true → list_all there (own (aggregate_of (given o))) ≡ true
    output_there (written.Column name) e = refl
    output_there (written.Aggregate a) e = all_both there (aggregate_columns (mapped_aggregate the_column (mapped_aggregate (resolved c from) a))) [] (aggregate_there a e) refl

    more : (a : Option (Aggregate BoundColumn)) (rest : List (Aggregate BoundColumn)) → list_all there (own a) ≡ true → list_all there (concat (map aggregate_columns rest)) ≡ true → list_all there (concat (map aggregate_columns (cons_option a rest))) ≡ true
    more None rest g h = h
    more (Some a) rest g h = all_both there (aggregate_columns a) (concat (map aggregate_columns rest)) (front (aggregate_columns a) g) h
      where
        front : (xs : List BoundColumn) → list_all there (xs ++ []) ≡ true → list_all there xs ≡ true
        front [] g = refl
        front (x ∷ xs) g = let k = both (there x) (list_all there (xs ++ [])) g in ap₂ (λ a b. a && b) k.0 (front xs k.1)

    outputs_there : (items : List Item) → list_all is_bindable_output (map (λ item. given item.output) items) ≡ true → list_all there (concat (map aggregate_columns (aggregates_of (map (λ item. given item.output) items)))) ≡ true
    outputs_there [] e = refl
    outputs_there (item ∷ items) e =
        let h = both (is_bindable_output (given item.output)) (list_all is_bindable_output (map (λ item. given item.output) items)) e in
        more (aggregate_of (given item.output)) (aggregates_of (map (λ item. given item.output) items)) (output_there item.output h.0) (outputs_there items h.1)

    operand_there : (o : Operand Output) → is_bindable_operand (mapped_operand Output ResolvedOutput given o) ≡ true → list_all there (own (operand_aggregate (mapped_operand Output ResolvedOutput given o))) ≡ true
    operand_there (operand.Column o) e = output_there o (both (is_bindable_output (given o)) true e).0
    operand_there (operand.Literal l) e = refl

    operands_there : (os : List (Operand Output)) → list_all is_bindable_operand (map (mapped_operand Output ResolvedOutput given) os) ≡ true
        → list_all there (concat (map aggregate_columns (filter_map operand_aggregate (map (mapped_operand Output ResolvedOutput given) os)))) ≡ true
    operands_there [] e = refl
    operands_there (o ∷ os) e =
        let h = both (is_bindable_operand (mapped_operand Output ResolvedOutput given o)) (list_all is_bindable_operand (map (mapped_operand Output ResolvedOutput given) os)) e in
        more (operand_aggregate (mapped_operand Output ResolvedOutput given o)) (filter_map operand_aggregate (map (mapped_operand Output ResolvedOutput given) os)) (operand_there o h.0) (operands_there os h.1)

    having_there : (h : Option (Filter Output)) → list_all is_bindable_operand (filter_operands (mapped_filter given h)) ≡ true → list_all there (concat (map aggregate_columns (having_aggregates (mapped_filter given h)))) ≡ true
    having_there None e = refl
    having_there (Some h) e =
        let os = operands_mapped (Operand Output) (Operand ResolvedOutput) (mapped_operand Output ResolvedOutput given) h in
        ap (λ xs. list_all there (concat (map aggregate_columns (filter_map operand_aggregate xs)))) os
        ∙ operands_there (operands (Operand Output) h) (sym (ap (list_all is_bindable_operand) os) ∙ e)

    concat_map-append : (xs ys : List (Aggregate BoundColumn)) → list_all there (concat (map aggregate_columns xs)) ≡ true → list_all there (concat (map aggregate_columns ys)) ≡ true → list_all there (concat (map aggregate_columns (xs ++ ys))) ≡ true
    concat_map-append [] ys g h = h
    concat_map-append (x ∷ xs) ys g h =
        let k = in_both there (aggregate_columns x) (concat (map aggregate_columns xs)) g in
        all_both there (aggregate_columns x) (concat (map aggregate_columns (xs ++ ys))) k.0 (concat_map-append xs ys k.1 h)

    -- those that a select's query groups by and computes aggregates of
    pub columns_there : IsBindable (resolved_select c from s)
        → list_all there (map the_column (resolved_select c from s).groups ++ concat (map aggregate_columns (aggregates_of (resolved_select c from s).outputs ++ having_aggregates (resolved_select c from s).having))) ≡ true
    columns_there b =
        let aggregates = concat_map-append (aggregates_of (resolved_select c from s).outputs) (having_aggregates (resolved_select c from s).having) (outputs_there s.items b.outputs) (having_there s.having b.having) in
        all_both there (map the_column (resolved_select c from s).groups) (concat (map aggregate_columns (aggregates_of (resolved_select c from s).outputs ++ having_aggregates (resolved_select c from s).having))) (names_there s.groups b.groups) aggregates
