-- What an aggregate takes of a row, by its input.
use Rattle.std.proofs.Common.{◌≡◌, ◌∙◌, ℕ, zero, suc, Bool, true, List, [], ◌∷◌, Option, None, Some, map, refl, sym, ap, subst, slice_get}
use Rattle.std.specs.List.{list_all}
use Rattle.std.specs.Option.{option_map}
use Rattle.std.proofs.lemmas.Option.{same_Some}
use Rattle.ssb_cells.specs.Cell.{Cell}
use Rattle.ssb_conditions.specs.Rows.{column_value}
use Rattle.ssb_plan.specs.Inputs.{column_ref, has_column, input_by, input_columns, input_of}
use Rattle.ssb_plan.specs.JobShape.{JobShape, from_tables}
use Rattle.ssb_plan.specs.declared.input.ColumnRef.{ColumnRef}
use Rattle.ssb_plan.specs.declared.input.Input.{Input}
use Rattle.ssb_query.specs.declared.column.BoundColumn.{BoundColumn}
use Rattle.ssb_terms.specs.declared.operator.Adding.{Adding}
use Rattle.ssb_trees.proofs.Relabelled.{fold_mapped, relabelled}
use Rattle.ssb_trees.proofs.Taken.{both, in_both}
use Rattle.ssb_trees.specs.Expressions.{mapped, own_column}
use Rattle.ssb_trees.specs.Lists.{concat}
use Rattle.ssb_trees.specs.declared.aggregate.Aggregate.{Aggregate}
use Rattle.ssb_trees.specs.declared.aggregate.Aggregate.TheVariants as aggregate
use Rattle.ssb_trees.specs.declared.aggregate.SetFunction.{SetFunction}
use Rattle.ssb_trees.specs.declared.aggregate.SetFunction.TheVariants as function
use Rattle.ssb_trees.specs.declared.expr.Expr.{Expr}
use Rattle.ssb_trees.specs.declared.expr.Expr.TheOpen.{Expr-F}
use Rattle.ssb_trees.specs.declared.expr.Expr.TheFolds.{fold-Expr}
use Rattle.ssb_groups.specs.Alone.{texts_by}
use Rattle.ssb_groups.specs.Joining.{AreJoinings, IsJoining, joining_of, sole_ref, values_by}
use Rattle.ssb_groups.specs.Refs.{IsSomeColumn, input_texts, input_value, ref_value, values_at}
use Rattle.ssb_groups.specs.Seen.{argument}
use Rattle.ssb_groups.specs.Value.{Outcome, number_layer, number_of, step_layer, value_by}
use Rattle.ssb_groups.proofs.ColumnFacts.{place-there}

-- ---- the number of an expression over other columns

module _ {C D : Type 0} (f : C → D) (cell : D → Cell) where
  abbrev Numbers : Type 0
  Numbers = Adding × Outcome

  layer-is : (x : Expr-F C Outcome Numbers) → number_layer cell (relabelled C D Outcome Numbers f (number_layer cell) step_layer x) ≡ number_layer (λ c. cell (f c)) x
  layer-is (Expr-F.Column x) = refl
  layer-is (Expr-F.Number n) = refl
  layer-is (Expr-F.Positive part) = refl
  layer-is (Expr-F.Negative part) = refl
  layer-is (Expr-F.Chain first steps) = refl
  layer-is (Expr-F.Times factors) = refl

  pub number-mapped : (e : Expr C) → number_of cell (mapped C D f e) ≡ number_of (λ c. cell (f c)) e
  number-mapped e = fold_mapped C D Outcome Numbers f (number_layer cell) step_layer e ∙ (λ j. fold-Expr C Outcome Numbers (λ x. layer-is x j) step_layer e)

-- ---- an aggregate's input

module _ (j : JobShape) where
  input-is : (rows : List ℕ) (e : Expr BoundColumn) (o : Option BoundColumn) → input_value j rows (input_by j.query e o) ≡ value_by (column_value (from_tables j) rows) e o
  input-is rows e None = number-mapped (column_ref j.query) (ref_value j rows) e
  input-is rows e (Some x) = refl

  pub input-value : (rows : List ℕ) (a : Aggregate BoundColumn) → input_value j rows (input_of j.query a) ≡ argument (column_value (from_tables j) rows) a
  input-value rows aggregate.Rows = refl
  input-value rows (aggregate.Of f e) = input-is rows e (own_column e)

  texts-of : (e : Expr BoundColumn) → (o : Option BoundColumn) → own_column e ≡ o → values_at j.tables (sole_ref j e) ≡ input_texts j.tables (input_by j.query e o)
  texts-of e None h = ap (λ o. values_at j.tables (option_map (column_ref j.query) o)) h
  texts-of e (Some x) h = ap (λ o. values_at j.tables (option_map (column_ref j.query) o)) h

  pub texts-are : (f : SetFunction) (e : Expr BoundColumn) → values_by j.tables (joining_of j (aggregate.Of f e)) ≡ texts_by f (input_texts j.tables (input_of j.query (aggregate.Of f e)))
  texts-are function.Sum e = refl
  texts-are function.Count e = refl
  texts-are function.Min e = texts-of e (own_column e) refl
  texts-are function.Max e = texts-of e (own_column e) refl

  -- ---- all of their columns are there

  abbrev has : ColumnRef → Bool
  has = has_column j.query j.tables

  some-there : (e : Expr BoundColumn) (o : Option BoundColumn) → own_column e ≡ o → list_all has (input_columns (input_by j.query e o)) ≡ true → IsSomeColumn j.tables (sole_ref j e)
  some-there e None h all = subst (λ o. IsSomeColumn j.tables (option_map (column_ref j.query) o)) (sym h) tt
  some-there e (Some x) h all = subst (λ o. IsSomeColumn j.tables (option_map (column_ref j.query) o)) (sym h) (place-there j (column_ref j.query x) (both (has (column_ref j.query x)) true all).0)

  joining-there : (a : Aggregate BoundColumn) → list_all has (input_columns (input_of j.query a)) ≡ true → IsJoining j.tables (joining_of j a)
  joining-there aggregate.Rows all = tt
  joining-there (aggregate.Of function.Sum e) all = tt
  joining-there (aggregate.Of function.Count e) all = tt
  joining-there (aggregate.Of function.Min e) all = some-there e (own_column e) refl all
  joining-there (aggregate.Of function.Max e) all = some-there e (own_column e) refl all

  pub joinings-there : (aggs : List (Aggregate BoundColumn)) → list_all has (concat (map input_columns (map (input_of j.query) aggs))) ≡ true → AreJoinings j.tables (map (joining_of j) aggs)
  joinings-there [] all = tt
  joinings-there (a ∷ aggs) all =
      let h = in_both has (input_columns (input_of j.query a)) (concat (map input_columns (map (input_of j.query) aggs))) all in
      (joining-there a h.0, joinings-there aggs h.1)

  -- the columns of one input are
  pub input-there : (is : List Input) (i : ℕ) (x : Input) → list_all has (concat (map input_columns is)) ≡ true → slice_get is i ≡ Some x → list_all has (input_columns x) ≡ true
  input-there [] i x all e = cc
  input-there (y ∷ is) zero x all e = subst (λ z. list_all has (input_columns z) ≡ true) (same_Some y x e) (in_both has (input_columns y) (concat (map input_columns is)) all).0
  input-there (y ∷ is) (suc i) x all e = input-there is i x (in_both has (input_columns y) (concat (map input_columns is)) all).1 e
