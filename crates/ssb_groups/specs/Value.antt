-- The value of an expression, in whole numbers of any size, cut to the range of an `int` at each column, number, sign and operation.
-- Source: SQL-92, 6.12 <numeric value expression>, for nulls; the range, and that Over goes before null, are this project's own.
use Rattle.std.specs.Prelude.{◌^◌, nat_lt, ℤ, pos, negsuc, ◌+ℤ◌, ◌-ℤ◌, ◌*ℤ◌, Bool, if◌then◌else◌, List, Option, None, Some, fold}
use Rattle.ssb_cells.specs.Cell.{Cell, null, number, text}
use Rattle.ssb_terms.specs.declared.operator.Adding.{Adding}
use Rattle.ssb_terms.specs.declared.operator.Adding.TheVariants as adding
use Rattle.ssb_query.specs.declared.column.BoundColumn.{BoundColumn}
use Rattle.ssb_trees.specs.Expressions.{own_column}
use Rattle.ssb_trees.specs.declared.expr.Expr.TheOpen.{Expr-F, Step-F}
use Rattle.ssb_trees.specs.declared.expr.Expr.TheFolds.{fold-Expr, fold-Step}
use Rattle.ssb_trees.specs.declared.expr.Step.{Step}
use Rattle.ssb_trees.specs.declared.expr.Expr.{Expr}

-- null, a number, a text, or Over: beyond the range
pub data Outcome : Type 0 where
  over : Outcome
  known : Cell → Outcome

-- the range of an `int`, which 64 bits hold: from -2^63 to 2^63 - 1
abbrev pub in_range : ℤ → Bool
in_range (pos n) = nat_lt n (2 ^ 63)
in_range (negsuc n) = nat_lt n (2 ^ 63)

abbrev pub checked : ℤ → Outcome
checked z = if in_range z then known (number z) else over

-- a column's number; a text has none
abbrev pub column_number : Cell → Outcome
column_number null = known null
column_number (number n) = checked n
column_number (text t) = known null

-- a column's value
abbrev pub column_outcome : Cell → Outcome
column_outcome null = known null
column_outcome (number n) = checked n
column_outcome (text t) = known (text t)

-- An operation with an operand that is Over is Over; else one without two numbers is null; else it is exact, or Over.
abbrev pub apply : (ℤ → ℤ → ℤ) → Outcome → Outcome → Outcome
apply exact over b = over
apply exact (known a) over = over
apply exact (known (number a)) (known (number b)) = checked (exact a b)
apply exact (known a) (known b) = known null

abbrev pub wide_sum : Outcome → Outcome → Outcome
wide_sum = apply (λ a b. a +ℤ b)

abbrev pub minus : Outcome → Outcome → Outcome
minus = apply (λ a b. a -ℤ b)

abbrev pub times : Outcome → Outcome → Outcome
times = apply (λ a b. a *ℤ b)

-- a further term is added or taken away
abbrev pub add_step : Outcome → Adding × Outcome → Outcome
add_step so_far (adding.Plus, term) = wide_sum so_far term
add_step so_far (adding.Minus, term) = minus so_far term

-- the product of factors, from left to right
abbrev pub product : List Outcome → Outcome
product xs = fold times (known (number (pos 1))) xs

-- one form of expression, with the numbers of the expressions in it
abbrev pub number_layer : {C : Type 0} → (C → Cell) → Expr-F C Outcome (Adding × Outcome) → Outcome
number_layer cell (Expr-F.Column x) = column_number (cell x)
number_layer cell (Expr-F.Number n) = checked (pos n)
number_layer cell (Expr-F.Positive part) = part
number_layer cell (Expr-F.Negative part) = minus (known (number (pos 0))) part
number_layer cell (Expr-F.Chain first steps) = fold add_step first steps
number_layer cell (Expr-F.Times factors) = product factors

abbrev pub step_layer : {C : Type 0} → Step-F C Outcome (Adding × Outcome) → Adding × Outcome
step_layer s = (s.adding, s.term)

-- the number of an expression where the columns have these values
abbrev pub number_of : {C : Type 0} → (C → Cell) → Expr C → Outcome
number_of {C} cell = fold-Expr C Outcome (Adding × Outcome) (number_layer cell) step_layer

-- the number of a further term, with its sign
abbrev pub step_number : {C : Type 0} → (C → Cell) → Step C → Adding × Outcome
step_number {C} cell = fold-Step C Outcome (Adding × Outcome) (number_layer cell) step_layer

abbrev pub value_by : (BoundColumn → Cell) → Expr BoundColumn → Option BoundColumn → Outcome
value_by cell e None = number_of cell e
value_by cell e (Some x) = column_outcome (cell x)

-- the value of an expression: that of the column which it is, and else its number
abbrev pub value : (BoundColumn → Cell) → Expr BoundColumn → Outcome
value cell e = value_by cell e (own_column e)
