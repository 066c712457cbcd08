-- A condition over one column, as the set of the values of which it is True and what it says of a null.
-- For the contracts inside this crate and ssb_job.
use Rattle.std.specs.Prelude.{◌≡◌, ◌^◌, ◌<ℤ◌, ◌&&◌, ℕ, ℤ, pos, Bool, true, false, not, nat_eq, List, Option, Some, None, if◌then◌else◌, is_some, find}
use Rattle.std.specs.Ordering.{int_cmp}
use Rattle.std.specs.Option.{option_map}
use Rattle.ssb_cells.specs.Cell.{Cell, null, number, text}
use Rattle.ssb_cells.specs.Codes.{code_of}
use Rattle.ssb_cells.specs.Compare.{compare, meets}
use Rattle.ssb_cells.specs.Truth.{truth}
use Rattle.ssb_cells.specs.Tables.{Filled}
use Rattle.ssb_cells.specs.declared.truth.Truth.{Truth}
use Rattle.ssb_sets.specs.NumberSets.{has}
use Rattle.ssb_sets.specs.declared.set.NumberSet.{NumberSet}
use Rattle.ssb_terms.specs.declared.literal.Literal.{Literal}
use Rattle.ssb_terms.specs.declared.operator.Op.{Op}
use Rattle.ssb_terms.specs.declared.operator.Op.TheVariants as op
use Rattle.ssb_terms.specs.declared.rule.ColType.{ColType}
use Rattle.ssb_terms.specs.declared.rule.ColType.TheVariants as kinds
use Rattle.ssb_query.specs.declared.column.BoundColumn.{BoundColumn}
use Rattle.ssb_conditions.specs.Holds.{among}
use Rattle.ssb_plan.specs.Only.{IsValue}
use Rattle.ssb_conditions.specs.Rows.{RowValuation}
use Rattle.ssb_plan.specs.declared.sets.ValueSet.{ValueSet}
use Rattle.ssb_trees.specs.Conditions.{Filter, operands}
use Rattle.ssb_trees.specs.declared.operand.Operand.{Operand}
use Rattle.ssb_trees.specs.declared.operand.Operand.TheVariants as operand

-- The column that a condition speaks of.

abbrev pub is_column : Operand BoundColumn → Bool
is_column (operand.Column x) = true
is_column (operand.Literal l) = false

-- whether an operand is a column other than this one
abbrev pub is_other : BoundColumn → Operand BoundColumn → Bool
is_other x (operand.Column y) = not (nat_eq y.table x.table && nat_eq y.column x.column)
is_other x (operand.Literal l) = false

-- whether a condition has no other column
abbrev pub is_own : BoundColumn → Operand BoundColumn → Bool
is_own x o = not (is_other x o)

abbrev pub sole : List (Operand BoundColumn) → Option (Operand BoundColumn) → Option BoundColumn
sole os None = None
sole os (Some (operand.Literal l)) = None
sole os (Some (operand.Column x)) = if is_some (find (is_other x) os) then None else Some x

-- the column of a condition, where it has one and no other
abbrev pub sole_column : Filter BoundColumn → Option BoundColumn
sole_column c = sole (operands (Operand BoundColumn) c) (find is_column (operands (Operand BoundColumn) c))

-- Values as numbers.

-- a number of 64 bits is below this
abbrev pub Fits : ℤ → Type 0
Fits n = n <ℤ pos (2 ^ 63)

abbrev pub of_numbers : ColType → ℤ → Option ℤ
of_numbers kinds.Int n = Some n
of_numbers kinds.Text n = None

abbrev pub of_texts : ColType → Option ℕ → Option ℤ
of_texts kinds.Int code = None
of_texts kinds.Text code = option_map pos code

-- the number by which a value stands in a column: itself, or the code of its text, if some row has it
abbrev pub encoded : Filled → Cell → Option ℤ
encoded f null = None
encoded f (number n) = of_numbers f.kind n
encoded f (text t) = of_texts f.kind (code_of f.values t)

-- Sets of values.

-- not, where a test is negated
abbrev pub flipped : Bool → Bool → Bool
flipped true b = not b
flipped false b = b

-- A set tells what is said of a column under each valuation: of a null what the set says, of each value True or False by whether the set has it.
pub record Tells (x : BoundColumn) (f : Filled) (said : RowValuation → Truth) (s : ValueSet) : Type 0 where
  pub nulls : (v : RowValuation) → IsValue v → v (operand.Column x) ≡ null → said v ≡ s.null
  pub values : (v : RowValuation) (n : ℤ) → IsValue v → encoded f (v (operand.Column x)) ≡ Some n → Fits n → said v ≡ truth (has s.numbers n)

-- the set of the numbers that compare so with another
abbrev pub AreNumbersThat : Op → ℤ → NumberSet → Type 0
AreNumbersThat o m s = (n : ℤ) → Fits n → has s n ≡ meets o (int_cmp n m)

-- the set of the codes of a column's texts that compare so with a value
abbrev pub AreTextsThat : Filled → Op → Cell → NumberSet → Type 0
AreTextsThat f o other s = (t : List ℕ) (k : ℕ) → code_of f.values t ≡ Some k → compare o (text t) other ≡ truth (has s (pos k))

-- the set of a column's values that compare so with another
abbrev pub AreValuesThat : Filled → Op → Cell → NumberSet → Type 0
AreValuesThat f o other s = (cell : Cell) (n : ℤ) → encoded f cell ≡ Some n → Fits n → compare o cell other ≡ truth (has s n)

-- the set of a column's values that are among literals
abbrev pub AreAmong : Filled → List Literal → NumberSet → Type 0
AreAmong f literals s = (cell : Cell) (n : ℤ) → encoded f cell ≡ Some n → Fits n → among cell literals ≡ truth (has s n)

-- the same comparison with its sides changed over
abbrev pub turned : Op → Op
turned op.Eq = op.Eq
turned op.Ne = op.Ne
turned op.Lt = op.Gt
turned op.Le = op.Ge
turned op.Gt = op.Lt
turned op.Ge = op.Le
