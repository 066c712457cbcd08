-- Reading a sum: its first term, and then the steps, each a sign and a term.
use Rattle.std.proofs.Common.{◌≡◌, ℕ, suc, List, [], Some, refl}
use Rattle.ssb_terms.specs.declared.operator.Adding.{Adding}
use Rattle.ssb_tokens.specs.declared.stop.Stop.{Stop}
use Rattle.ssb_tokens.specs.declared.stop.Stop.TheVariants as stop
use Rattle.ssb_tokens.specs.declared.token.Token.{Token}
use Rattle.ssb_sql.specs.Expressions.{sum_of}
use Rattle.ssb_sql.specs.ReadExpressions.{adding_at, expr_at, step_at, term_at}
use Rattle.ssb_tokens.specs.Reading.{Fails}
use Rattle.ssb_sql.specs.Steps.{more_at}
use Rattle.ssb_sql.proofs.Loop.{bind_fails}
use Rattle.ssb_trees.specs.declared.expr.Step.{Step}
use Rattle.ssb_sql.specs.declared.named.ColumnName.{ColumnName}
use Rattle.ssb_trees.specs.declared.expr.Expr.{Expr}

pub step_reads : (d : ℕ) (l : Adding × List Token) (end : List Token) (x : Expr ColumnName) → term_at (expr_at d) l.1 ≡ Some (x, end) → step_at (expr_at d) l ≡ Some (record { adding = l.0; term = x }, end)
unfolding step_at
step_reads d l end x one = rw one refl

pub step_stops : (d : ℕ) (why : Stop) (l : Adding × List Token) → Fails why (term_at (expr_at d) l.1) → Fails why (step_at (expr_at d) l)
unfolding step_at
step_stops d why l none = bind_fails why (term_at (expr_at d) l.1) (λ x. Some (record { adding = l.0; term = x.0 }, x.1)) none

pub sum_reads : (d e : ℕ) (ts mid end : List Token) (first : Expr ColumnName) (steps : List (Step ColumnName)) → d ≡ suc e → term_at (expr_at e) ts ≡ Some (first, mid)
    → more_at adding_at (step_at (expr_at e)) [] mid ≡ Some (steps, end) → expr_at d ts ≡ Some (sum_of first steps, end)
unfolding expr_at
sum_reads d e ts mid end first steps is one more = rw (is, one, more) refl

-- no steps can be read
pub sum_stops : (d e : ℕ) (ts mid : List Token) (first : Expr ColumnName) (why : Stop) → d ≡ suc e → term_at (expr_at e) ts ≡ Some (first, mid)
    → Fails why (more_at adding_at (step_at (expr_at e)) [] mid) → Fails why (expr_at d ts)
unfolding expr_at
sum_stops d e ts mid first stop.Memory is one none = tt
sum_stops d e ts mid first stop.Syntax is one none = rw (is, one, none) refl
