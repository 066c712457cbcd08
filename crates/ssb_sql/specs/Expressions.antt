-- Which tokens spell which expression.
-- Source: SQL-92, 6.12 <numeric value expression>, cut down.
use Rattle.std.specs.Prelude.{ℕ, List, [], ◌∷◌}
use Rattle.ssb_tokens.specs.declared.token.Token.{Token}
use Rattle.ssb_tokens.specs.declared.token.Token.TheVariants.{Number}
use Rattle.ssb_tokens.specs.declared.token.Mark.TheVariants as marks
use Rattle.ssb_sql.specs.declared.named.ColumnName.{ColumnName}
use Rattle.ssb_terms.specs.declared.operator.Adding.TheVariants as a
use Rattle.ssb_trees.specs.declared.expr.Expr.TheVariants as e
use Rattle.ssb_sql.specs.Forms.{IsColumn, chain_of, mark}
use Rattle.ssb_trees.specs.declared.expr.Step.{Step}
use Rattle.ssb_trees.specs.declared.expr.Expr.{Expr}

-- a chain of one thing is that thing
unfoldable pub sum_of : Expr ColumnName → List (Step ColumnName) → Expr ColumnName
sum_of x [] = x
sum_of x (y ∷ ys) = e.Chain x (y ∷ ys)

abbrev pub times_of : List (Expr ColumnName) → Expr ColumnName
times_of = chain_of e.Times

mutual
  -- expr = term {("+" | "-") term}
  pub data IsExpr : List Token → List Token → Expr ColumnName → Type 0 where
    expr : {from mid to : List Token} {x : Expr ColumnName} {xs : List (Step ColumnName)} → IsTerm from mid x → IsSteps mid to xs → IsExpr from to (sum_of x xs)

  pub data IsSteps : List Token → List Token → List (Step ColumnName) → Type 0 where
    no_step : {to : List Token} → IsSteps to to []
    plus : {from mid to : List Token} {x : Expr ColumnName} {xs : List (Step ColumnName)} → IsTerm from mid x → IsSteps mid to xs → IsSteps (mark marks.Plus ∷ from) to (record { adding = a.Plus; term = x } ∷ xs)
    minus : {from mid to : List Token} {x : Expr ColumnName} {xs : List (Step ColumnName)} → IsTerm from mid x → IsSteps mid to xs → IsSteps (mark marks.Minus ∷ from) to (record { adding = a.Minus; term = x } ∷ xs)

  -- term = factor {"*" factor}
  pub data IsTerm : List Token → List Token → Expr ColumnName → Type 0 where
    term : {from mid to : List Token} {x : Expr ColumnName} {xs : List (Expr ColumnName)} → IsFactor from mid x → IsFactors mid to xs → IsTerm from to (times_of (x ∷ xs))

  pub data IsFactors : List Token → List Token → List (Expr ColumnName) → Type 0 where
    no_factor : {to : List Token} → IsFactors to to []
    times : {from mid to : List Token} {x : Expr ColumnName} {xs : List (Expr ColumnName)} → IsFactor from mid x → IsFactors mid to xs → IsFactors (mark marks.Times ∷ from) to (x ∷ xs)

  -- factor = ["+" | "-"] primary
  pub data IsFactor : List Token → List Token → Expr ColumnName → Type 0 where
    plain : {from to : List Token} {x : Expr ColumnName} → IsPrimary from to x → IsFactor from to x
    positive : {from to : List Token} {x : Expr ColumnName} → IsPrimary from to x → IsFactor (mark marks.Plus ∷ from) to (e.Positive x)
    negative : {from to : List Token} {x : Expr ColumnName} → IsPrimary from to x → IsFactor (mark marks.Minus ∷ from) to (e.Negative x)

  -- primary = column | number | "(" expr ")"
  pub data IsPrimary : List Token → List Token → Expr ColumnName → Type 0 where
    column : {from to : List Token} {x : ColumnName} → IsColumn from to x → IsPrimary from to (e.Column x)
    number : {to : List Token} {n : ℕ} → IsPrimary (Number n ∷ to) to (e.Number n)
    parens : {from to : List Token} {x : Expr ColumnName} → IsExpr from (mark marks.Close ∷ to) x → IsPrimary (mark marks.Open ∷ from) to x
