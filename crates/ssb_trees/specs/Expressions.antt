-- Expressions and aggregates over any columns: the same over others, and the columns that they have.
-- Source: own; the forms are those of SQL-92, 6.12 <numeric value expression>.
use Rattle.std.specs.Prelude.{List, [], ◌∷◌, ◌++◌, Option, None, Some}
use Rattle.ssb_trees.specs.Lists.{concat}
use Rattle.ssb_trees.specs.declared.aggregate.Aggregate.{Aggregate}
use Rattle.ssb_trees.specs.declared.aggregate.Aggregate.TheVariants as aggregate
use Rattle.ssb_trees.specs.declared.expr.Expr.{Expr}
use Rattle.ssb_trees.specs.declared.expr.Expr.TheVariants as expr
use Rattle.ssb_trees.specs.declared.expr.Expr.TheOpen.{Expr-F, Step-F}
use Rattle.ssb_trees.specs.declared.expr.Expr.TheFolds.{fold-Expr, fold-Step}
use Rattle.ssb_trees.specs.declared.expr.Step.{Step}

-- one form of expression, with f of its column
abbrev pub mapped_layer : (C D : Type 0) → (C → D) → Expr-F C (Expr D) (Step D) → Expr D
mapped_layer C D f (Expr-F.Column x) = expr.Column (f x)
mapped_layer C D f (Expr-F.Number n) = expr.Number n
mapped_layer C D f (Expr-F.Positive part) = expr.Positive part
mapped_layer C D f (Expr-F.Negative part) = expr.Negative part
mapped_layer C D f (Expr-F.Chain first steps) = expr.Chain first steps
mapped_layer C D f (Expr-F.Times factors) = expr.Times factors

abbrev pub mapped_step_layer : (C D : Type 0) → Step-F C (Expr D) (Step D) → Step D
mapped_step_layer C D s = record { adding = s.adding; term = s.term }

-- the same expression with f of each column
abbrev pub mapped : (C D : Type 0) → (C → D) → Expr C → Expr D
mapped C D f = fold-Expr C (Expr D) (Step D) (mapped_layer C D f) (mapped_step_layer C D)

abbrev pub mapped_step : (C D : Type 0) → (C → D) → Step C → Step D
mapped_step C D f = fold-Step C (Expr D) (Step D) (mapped_layer C D f) (mapped_step_layer C D)

-- one form of expression, with the columns of the expressions in it
abbrev pub columns_layer : (C : Type 0) → Expr-F C (List C) (List C) → List C
columns_layer C (Expr-F.Column x) = x ∷ []
columns_layer C (Expr-F.Number n) = []
columns_layer C (Expr-F.Positive part) = part
columns_layer C (Expr-F.Negative part) = part
columns_layer C (Expr-F.Chain first steps) = first ++ concat steps
columns_layer C (Expr-F.Times factors) = concat factors

abbrev pub step_columns_layer : (C : Type 0) → Step-F C (List C) (List C) → List C
step_columns_layer C s = s.term

-- the columns of an expression, in the order of its text
abbrev pub columns : (C : Type 0) → Expr C → List C
columns C = fold-Expr C (List C) (List C) (columns_layer C) (step_columns_layer C)

abbrev pub step_columns : (C : Type 0) → Step C → List C
step_columns C = fold-Step C (List C) (List C) (columns_layer C) (step_columns_layer C)

-- one form of expression, as a column
abbrev pub own_column_layer : (C : Type 0) → Expr-F C (Option C) (Option C) → Option C
own_column_layer C (Expr-F.Column x) = Some x
own_column_layer C (Expr-F.Number n) = None
own_column_layer C (Expr-F.Positive part) = None
own_column_layer C (Expr-F.Negative part) = None
own_column_layer C (Expr-F.Chain first steps) = None
own_column_layer C (Expr-F.Times factors) = None

-- the column that an expression is, where it is one alone
abbrev pub own_column : {C : Type 0} → Expr C → Option C
own_column {C} = fold-Expr C (Option C) (Option C) (own_column_layer C) (λ s. s.term)

-- ---- aggregates

abbrev pub aggregate_columns : {C : Type 0} → Aggregate C → List C
aggregate_columns aggregate.Rows = []
aggregate_columns {C} (aggregate.Of function e) = columns C e

-- the same aggregate with f of each column
abbrev pub mapped_aggregate : {C D : Type 0} → (C → D) → Aggregate C → Aggregate D
mapped_aggregate f aggregate.Rows = aggregate.Rows
mapped_aggregate {C} {D} f (aggregate.Of function e) = aggregate.Of function (mapped C D f e)
