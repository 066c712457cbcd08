-- Reading expressions.
-- For the contracts inside this crate.
use Rattle.std.specs.Prelude.{ℕ, zero, suc, List, [], ◌∷◌, Option, Some, None}
use Rattle.ssb_tokens.specs.declared.token.Token.{Token}
use Rattle.ssb_tokens.specs.declared.token.Token.TheVariants.{Number}
use Rattle.ssb_tokens.specs.declared.token.Mark.TheVariants as marks
use Rattle.ssb_tokens.specs.declared.token.Sign.TheVariants as s
use Rattle.ssb_terms.specs.declared.operator.Adding.{Adding}
use Rattle.ssb_terms.specs.declared.operator.Adding.TheVariants as a
use Rattle.ssb_trees.specs.declared.expr.Expr.TheVariants as e
use Rattle.ssb_tokens.specs.Reading.{◌>>=◌}
use Rattle.ssb_sql.specs.Steps.{Parser, choose, after, more_at, made_at, enclosed_at}
use Rattle.ssb_sql.specs.ReadParts.{column_at}
use Rattle.ssb_sql.specs.Expressions.{sum_of}
use Rattle.ssb_trees.specs.declared.expr.Step.{Step}
use Rattle.ssb_sql.specs.declared.named.ColumnName.{ColumnName}
use Rattle.ssb_trees.specs.declared.expr.Expr.{Expr}

unfoldable pub bare_primary_at : Parser (Expr ColumnName)
bare_primary_at (Number n ∷ ts) = Some (e.Number n, ts)
bare_primary_at ts = column_at ts >>= λ x. Some (e.Column x.0, x.1)

abbrev pub primary_at : Parser (Expr ColumnName) → Parser (Expr ColumnName)
primary_at inner = enclosed_at inner bare_primary_at

-- `+` or `-`, and what follows
unfoldable pub adding_at : List Token → Option (Adding × List Token)
adding_at ts = choose (after (s.Mark marks.Plus) ts) (λ rest. Some (a.Plus, rest)) (choose (after (s.Mark marks.Minus) ts) (λ rest. Some (a.Minus, rest)) None)

-- a term behind its sign
abbrev pub signed : Adding → Expr ColumnName → Expr ColumnName
signed a.Plus x = e.Positive x
signed a.Minus x = e.Negative x

unfoldable pub factor_at : Parser (Expr ColumnName) → Parser (Expr ColumnName)
factor_at inner ts = choose (adding_at ts) (λ l. primary_at inner l.1 >>= λ x. Some (signed l.0 x.0, x.1)) (primary_at inner ts)

unfoldable pub term_at : Parser (Expr ColumnName) → Parser (Expr ColumnName)
term_at inner ts = made_at e.Times (s.Mark marks.Times) (factor_at inner) ts

unfoldable pub step_at : Parser (Expr ColumnName) → Adding × List Token → Option (Step ColumnName × List Token)
step_at inner l = term_at inner l.1 >>= λ x. Some (record { adding = l.0; term = x.0 }, x.1)

abbrev pub sum_at : Parser (Expr ColumnName) → Parser (Expr ColumnName)
sum_at inner ts = term_at inner ts >>= λ x. more_at adding_at (step_at inner) [] x.1 >>= λ xs. Some (sum_of x.0 xs.0, xs.1)

-- an expression with fewer than this many open parentheses
unfoldable pub expr_at : ℕ → Parser (Expr ColumnName)
expr_at zero ts = None
expr_at (suc d) ts = sum_at (expr_at d) ts
