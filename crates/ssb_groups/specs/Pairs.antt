-- Expressions of two columns.
-- For the contracts inside this crate.
use Rattle.std.specs.Prelude.{◌≡◌, [], ◌∷◌}
use Rattle.ssb_cells.specs.Cell.{Cell}
use Rattle.ssb_plan.specs.declared.input.ColumnRef.{ColumnRef}
use Rattle.ssb_terms.specs.declared.operator.Adding.{Adding}
use Rattle.ssb_trees.specs.Expressions.{columns}
use Rattle.ssb_trees.specs.declared.expr.Expr.{Expr}
use Rattle.ssb_trees.specs.declared.expr.Expr.TheVariants as expr
use Rattle.ssb_groups.specs.Outcomes.{exact}
use Rattle.ssb_groups.specs.Value.{Outcome, add_step, apply, column_number, number_of}
use Rattle.ssb_groups.specs.declared.outcome.Operation.{Operation}
use Rattle.ssb_groups.specs.declared.pair.Pair.{Pair}

-- what a further term does
abbrev pub IsOperation : Adding → Operation → Type 0
IsOperation adding o = (a b : Outcome) → add_step a (adding, b) ≡ apply (exact o) a b

-- the pair of two operands that are columns
pub record AreSides (left : Expr ColumnRef) (o : Operation) (right : Expr ColumnRef) (p : Pair) : Type 0 where
  pub left_is : left ≡ expr.Column p.left
  pub operation_is : p.operation ≡ o
  pub right_is : right ≡ expr.Column p.right

-- an expression whose number is what an operation makes of those of two columns, and that has no other
pub record IsPairOf (e : Expr ColumnRef) (p : Pair) : Type 0 where
  pub number : (cell : ColumnRef → Cell) → number_of cell e ≡ apply (exact p.operation) (column_number (cell p.left)) (column_number (cell p.right))
  pub columns_are : columns ColumnRef e ≡ p.left ∷ p.right ∷ []
