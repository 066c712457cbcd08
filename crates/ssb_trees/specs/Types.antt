-- The types of expressions and aggregates, and tests of a number beside a text. Of what type a column is, is given.
-- Source: SQL-92, 8.2 <comparison predicate> (comparable types), 6.12 <numeric value expression> (operands are numbers) and 6.5 <set function specification>
-- (the type of a result).
use Rattle.std.specs.Prelude.{◌≡◌, Bool, true, false, not, ◌||◌, if◌then◌else◌, List, ◌∷◌, Option, Some, None}
use Rattle.std.specs.List.{list_all, list_any}
use Rattle.std.specs.Option.{is_some}
use Rattle.ssb_terms.specs.declared.rule.ColType.{ColType}
use Rattle.ssb_terms.specs.declared.rule.ColType.TheVariants as kinds
use Rattle.ssb_terms.specs.declared.literal.Literal.{Literal}
use Rattle.ssb_terms.specs.declared.literal.Literal.TheVariants as literal
use Rattle.ssb_trees.specs.declared.condition.Condition.TheOpen.{Condition-F}
use Rattle.ssb_trees.specs.declared.condition.Condition.TheFolds.{fold-Condition}
use Rattle.ssb_trees.specs.declared.operand.Operand.TheVariants as operand
use Rattle.ssb_trees.specs.declared.expr.Expr.TheVariants as expr
use Rattle.ssb_trees.specs.declared.expr.Expr.TheOpen.{Expr-F, Step-F}
use Rattle.ssb_trees.specs.declared.expr.Expr.TheFolds.{fold-Expr, fold-Step}
use Rattle.ssb_trees.specs.declared.aggregate.Aggregate.TheVariants as aggregate
use Rattle.ssb_trees.specs.declared.aggregate.SetFunction.{SetFunction}
use Rattle.ssb_trees.specs.declared.aggregate.SetFunction.TheVariants as function
use Rattle.ssb_trees.specs.declared.expr.Step.{Step}
use Rattle.ssb_trees.specs.declared.expr.Expr.{Expr}
use Rattle.ssb_trees.specs.Conditions.{Filter}
use Rattle.ssb_trees.specs.declared.operand.Operand.{Operand}
use Rattle.ssb_trees.specs.declared.aggregate.Aggregate.{Aggregate}

-- the type of each column, or of what stands for one; None of one that has none
abbrev pub Kinds : Type 0 → Type 0
Kinds C = C → Option ColType

-- Expressions: a column has its type, a number is one, and a sign or an operation needs numbers. None is the type of an
-- expression that has none.

abbrev pub is_int_type : Option ColType → Bool
is_int_type (Some kinds.Int) = true
is_int_type (Some kinds.Text) = false
is_int_type None = false

abbrev pub number_if : Bool → Option ColType
number_if b = if b then Some kinds.Int else None

-- the type of numbers, if each of these types is that
abbrev pub number_of_all : List (Option ColType) → Option ColType
number_of_all ts = number_if (list_all is_int_type ts)

abbrev pub type_layer : {C : Type 0} → Kinds C → Expr-F C (Option ColType) (Option ColType) → Option ColType
type_layer kind (Expr-F.Column x) = kind x
type_layer kind (Expr-F.Number n) = Some kinds.Int
type_layer kind (Expr-F.Positive part) = number_if (is_int_type part)
type_layer kind (Expr-F.Negative part) = number_if (is_int_type part)
type_layer kind (Expr-F.Chain first steps) = number_of_all (first ∷ steps)
type_layer kind (Expr-F.Times factors) = number_of_all factors

abbrev pub step_layer : {C : Type 0} → Step-F C (Option ColType) (Option ColType) → Option ColType
step_layer s = s.term

-- the type of an expression
abbrev pub type_of : {C : Type 0} → Kinds C → Expr C → Option ColType
type_of {C} kind = fold-Expr C (Option ColType) (Option ColType) (type_layer kind) step_layer

abbrev pub type_of_step : {C : Type 0} → Kinds C → Step C → Option ColType
type_of_step {C} kind = fold-Step C (Option ColType) (Option ColType) (type_layer kind) step_layer

-- Since a sign or an operation gives a number, or has no type, no text is anything but a column.

abbrev pub IsTextColumn : {C : Type 0} → Kinds C → Expr C → Type 0
IsTextColumn {C} kind e = (x : C) × (e ≡ expr.Column x) × (kind x ≡ Some kinds.Text)

abbrev pub TextsAreColumns : Type 0 → Type 0
TextsAreColumns C = (kind : Kinds C) (e : Expr C) → type_of kind e ≡ Some kinds.Text → IsTextColumn kind e

-- Aggregates: of numbers SUM gives a number, and of values of either type COUNT does; MIN and MAX give one of the values.

abbrev pub result_type : SetFunction → Option ColType → Option ColType
result_type function.Sum t = number_if (is_int_type t)
result_type function.Count t = number_if (is_some t)
result_type function.Min t = t
result_type function.Max t = t

-- the type of an aggregate
abbrev pub aggregate_type : {C : Type 0} → Kinds C → Aggregate C → Option ColType
aggregate_type kind aggregate.Rows = Some kinds.Int
aggregate_type kind (aggregate.Of f e) = result_type f (type_of kind e)

-- Conditions: what is compared has one type.

abbrev pub is_text_kind : Option ColType → Bool
is_text_kind (Some kinds.Text) = true
is_text_kind (Some kinds.Int) = false
is_text_kind None = false

abbrev pub is_text_literal : Literal → Bool
is_text_literal (literal.Number n) = false
is_text_literal (literal.Text t) = true

abbrev pub is_text : {C : Type 0} → Kinds C → Operand C → Bool
is_text kind (operand.Column x) = is_text_kind (kind x)
is_text kind (operand.Literal l) = is_text_literal l

abbrev pub differ : Bool → Bool → Bool
differ true other = not other
differ false other = other

-- one operand is a text, and the other is a number
abbrev pub are_mixed : {C : Type 0} → Kinds C → Operand C → Operand C → Bool
are_mixed kind a b = differ (is_text kind a) (is_text kind b)

abbrev pub is_mixed_list : {C : Type 0} → Kinds C → Operand C → List Literal → Bool
is_mixed_list kind x literals = list_any (λ l. differ (is_text kind x) (is_text_literal l)) literals

abbrev pub mixed_layer : {C : Type 0} → Kinds C → Condition-F (Operand C) Bool → Bool
mixed_layer kind (Condition-F.Any parts) = list_any (λ part. part) parts
mixed_layer kind (Condition-F.All parts) = list_any (λ part. part) parts
mixed_layer kind (Condition-F.Not part) = part
mixed_layer kind (Condition-F.Compare op a b) = are_mixed kind a b
mixed_layer kind (Condition-F.Between x a b negated) = are_mixed kind x a || are_mixed kind x b
mixed_layer kind (Condition-F.In x literals negated) = is_mixed_list kind x literals
mixed_layer kind (Condition-F.IsNull x negated) = false

-- some comparison, BETWEEN or IN has a number beside a text
abbrev pub is_mixed : {C : Type 0} → Kinds C → Filter C → Bool
is_mixed {C} kind = fold-Condition (Operand C) Bool (mixed_layer kind)

abbrev pub has_mixed : {C : Type 0} → Kinds C → Option (Filter C) → Bool
has_mixed kind None = false
has_mixed kind (Some c) = is_mixed kind c
