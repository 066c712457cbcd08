-- Each expression of the grammar is read.
use Rattle.std.proofs.Common.{◌≡◌, ℕ, zero, suc, ◌≤◌, false, List, [], ◌∷◌, length, Some, None, refl, arith}
use Rattle.ssb_tokens.specs.declared.token.Token.{Token}
use Rattle.ssb_tokens.specs.declared.token.Token.TheVariants.{Fixed, Number}
use Rattle.ssb_tokens.specs.declared.token.Sign.{Sign}
use Rattle.ssb_tokens.specs.declared.token.Mark.TheVariants as marks
use Rattle.ssb_tokens.specs.declared.token.Sign.TheVariants as s
use Rattle.ssb_sql.specs.declared.named.ColumnName.{ColumnName}
use Rattle.ssb_terms.specs.declared.operator.Adding.{Adding}
use Rattle.ssb_terms.specs.declared.operator.Adding.TheVariants as a
use Rattle.ssb_trees.specs.declared.expr.Expr.TheVariants as e
use Rattle.ssb_sql.specs.Forms.{IsColumn}
use Rattle.ssb_sql.specs.Forms.IsColumn.{alone, dotted}
use Rattle.ssb_sql.specs.Expressions.{IsExpr, IsSteps, IsTerm, IsFactors, IsFactor, IsPrimary, sum_of, times_of}
use Rattle.ssb_sql.specs.Expressions.IsExpr.{expr}
use Rattle.ssb_sql.specs.Expressions.IsSteps.{no_step, plus, minus}
use Rattle.ssb_sql.specs.Expressions.IsTerm.{term}
use Rattle.ssb_sql.specs.Expressions.IsFactors.{no_factor, times}
use Rattle.ssb_sql.specs.Expressions.IsFactor.{plain, positive, negative}
use Rattle.ssb_sql.specs.Expressions.IsPrimary.{column, number, parens}
use Rattle.ssb_sql.specs.Room.{HasRoom}
use Rattle.ssb_sql.specs.Steps.{Parser, after, is_fixed, is_sign, chain_at, more_at, chained_at}
use Rattle.ssb_sql.specs.ReadExpressions.{bare_primary_at, primary_at, adding_at, signed, factor_at, term_at, step_at, expr_at}
use Rattle.ssb_sql.proofs.StepFacts.{Stops, stops, differs, sees}
use Rattle.ssb_sql.proofs.Shapes.{turn_done, turn_goes, sign_goes, more_goes, parens_read, open_read}
use Rattle.ssb_sql.proofs.PartFacts.{column_begins, column_read}
use Rattle.ssb_sql.proofs.ExpressionSound.{adding_mark, term_shorter, factor_shorter, term_within, factor_within}
use Rattle.ssb_trees.specs.declared.expr.Step.{Step}
use Rattle.ssb_trees.specs.declared.expr.Expr.{Expr}

-- what may follow an expression
pub record EndsExpr (to : List Token) : Type 0 where
  pub dot : Stops (s.Mark marks.Dot) to
  pub times : Stops (s.Mark marks.Times) to
  pub plus : Stops (s.Mark marks.Plus) to
  pub minus : Stops (s.Mark marks.Minus) to

pub close_ends : (to : List Token) → EndsExpr (Fixed (s.Mark marks.Close) ∷ to)
close_ends to = record {
  dot = stops (s.Mark marks.Close) (s.Mark marks.Dot) to (differs (s.Mark marks.Close) (s.Mark marks.Dot) refl);
  times = stops (s.Mark marks.Close) (s.Mark marks.Times) to (differs (s.Mark marks.Close) (s.Mark marks.Times) refl);
  plus = stops (s.Mark marks.Close) (s.Mark marks.Plus) to (differs (s.Mark marks.Close) (s.Mark marks.Plus) refl);
  minus = stops (s.Mark marks.Close) (s.Mark marks.Minus) to (differs (s.Mark marks.Close) (s.Mark marks.Minus) refl);
}

-- how things begin
number_begins : (n : ℕ) (to : List Token) (sign : Sign) → Stops sign (Number n ∷ to)
unfolding after is_fixed
number_begins n to sign = refl

primary_begins : {from to : List Token} {x : Expr ColumnName} → IsPrimary from to x → (sign : Sign) → is_sign (s.Mark marks.Open) sign ≡ false → Stops sign from
primary_begins (column a) sign h = column_begins a sign
primary_begins (number {to = to} {n = n}) sign h = number_begins n to sign
primary_begins (parens {from = from} a) sign h = stops (s.Mark marks.Open) sign from h

factor_begins : {from to : List Token} {x : Expr ColumnName} → IsFactor from to x → Stops (s.Mark marks.Times) from
factor_begins (plain a) = primary_begins a (s.Mark marks.Times) (differs (s.Mark marks.Open) (s.Mark marks.Times) refl)
factor_begins (positive {from = from} a) = stops (s.Mark marks.Plus) (s.Mark marks.Times) from (differs (s.Mark marks.Plus) (s.Mark marks.Times) refl)
factor_begins (negative {from = from} a) = stops (s.Mark marks.Minus) (s.Mark marks.Times) from (differs (s.Mark marks.Minus) (s.Mark marks.Times) refl)

term_begins : {from to : List Token} {x : Expr ColumnName} → IsTerm from to x → Stops (s.Mark marks.Times) from
term_begins (term a b) = factor_begins a

pub expr_begins : {from to : List Token} {x : Expr ColumnName} → IsExpr from to x → Stops (s.Mark marks.Times) from
expr_begins (expr a b) = term_begins a

-- what follows one member of a chain
steps_end : {from to : List Token} {xs : List (Step ColumnName)} → IsSteps from to xs → (sign : Sign) → is_sign (s.Mark marks.Plus) sign ≡ false → is_sign (s.Mark marks.Minus) sign ≡ false → Stops sign to → Stops sign from
steps_end no_step sign p m h = h
steps_end (plus {from = from} a b) sign p m h = stops (s.Mark marks.Plus) sign from p
steps_end (minus {from = from} a b) sign p m h = stops (s.Mark marks.Minus) sign from m

factors_end : {from to : List Token} {xs : List (Expr ColumnName)} → IsFactors from to xs → (sign : Sign) → is_sign (s.Mark marks.Times) sign ≡ false → Stops sign to → Stops sign from
factors_end no_factor sign p h = h
factors_end (times {from = from} a b) sign p h = stops (s.Mark marks.Times) sign from p

-- one reader from another
bare_column_goes : {from to : List Token} {x : ColumnName} → IsColumn from to x → Stops (s.Mark marks.Dot) to → bare_primary_at from ≡ Some (e.Column x, to)
unfolding bare_primary_at
bare_column_goes (alone {to = to} {n = n}) h = rw (column_read (alone {to = to} {n = n}) h) refl
bare_column_goes (dotted {to = to} {t = t} {n = n}) h = rw (column_read (dotted {to = to} {t = t} {n = n}) h) refl

bare_number_goes : (n : ℕ) (to : List Token) → bare_primary_at (Number n ∷ to) ≡ Some (e.Number n, to)
unfolding bare_primary_at
bare_number_goes n to = refl

adding_stops : (to : List Token) → Stops (s.Mark marks.Plus) to → Stops (s.Mark marks.Minus) to → adding_at to ≡ None
unfolding adding_at
adding_stops to p m = rw (p, m) refl

adding_goes : (y : Adding) (ts : List Token) → adding_at (Fixed (s.Mark (adding_mark y)) ∷ ts) ≡ Some (y, ts)
unfolding adding_at
adding_goes a.Plus ts = rw (sees (s.Mark marks.Plus) ts) refl
adding_goes a.Minus ts = rw (stops (s.Mark marks.Minus) (s.Mark marks.Plus) ts (differs (s.Mark marks.Minus) (s.Mark marks.Plus) refl), sees (s.Mark marks.Minus) ts) refl

plain_goes : (p : Parser (Expr ColumnName)) (ts to : List Token) (x : Expr ColumnName) → Stops (s.Mark marks.Plus) ts → Stops (s.Mark marks.Minus) ts → primary_at p ts ≡ Some (x, to) → factor_at p ts ≡ Some (x, to)
unfolding factor_at
plain_goes p ts to x h m q = rw (adding_stops ts h m) q

signed_goes : (p : Parser (Expr ColumnName)) (y : Adding) (ts to : List Token) (x : Expr ColumnName) → primary_at p ts ≡ Some (x, to) → factor_at p (Fixed (s.Mark (adding_mark y)) ∷ ts) ≡ Some (signed y x, to)
unfolding factor_at
signed_goes p y ts to x q = rw (adding_goes y ts, q) refl

term_goes : (p : Parser (Expr ColumnName)) (ts mid to : List Token) (x : Expr ColumnName) (xs : List (Expr ColumnName)) → factor_at p ts ≡ Some (x, mid) → more_at (after (s.Mark marks.Times)) (factor_at p) (x ∷ []) mid ≡ Some (x ∷ xs, to) → term_at p ts ≡ Some (times_of (x ∷ xs), to)
unfolding term_at chained_at
term_goes p ts mid to x xs q r = rw (q, r) refl

sum_goes : (d : ℕ) (ts mid to : List Token) (x : Expr ColumnName) (xs : List (Step ColumnName)) → term_at (expr_at d) ts ≡ Some (x, mid) → more_at adding_at (step_at (expr_at d)) [] mid ≡ Some (xs, to) → expr_at (suc d) ts ≡ Some (sum_of x xs, to)
unfolding expr_at
sum_goes d ts mid to x xs q r = rw (q, r) refl

abbrev step_of : Adding → Expr ColumnName → Step ColumnName
step_of y x = record { adding = y; term = x }

step_goes : (p : Parser (Expr ColumnName)) (y : Adding) (ts to : List Token) (x : Expr ColumnName) → term_at p ts ≡ Some (x, to) → step_at p (y, ts) ≡ Some (step_of y x, to)
unfolding step_at
step_goes p y ts to x q = rw q refl

step_turn : (d k : ℕ) (y : Adding) (ts mid to : List Token) (x : Expr ColumnName) (xs : List (Step ColumnName)) → term_at (expr_at d) ts ≡ Some (x, mid) → chain_at adding_at (step_at (expr_at d)) k mid ≡ Some (xs, to)
    → chain_at adding_at (step_at (expr_at d)) (suc k) (Fixed (s.Mark (adding_mark y)) ∷ ts) ≡ Some (step_of y x ∷ xs, to)
step_turn d k y ts mid to x xs q r = turn_goes adding_at (step_at (expr_at d)) k (Fixed (s.Mark (adding_mark y)) ∷ ts) mid to (y, ts) (step_of y x) xs (adding_goes y ts) (step_goes (expr_at d) y ts mid x q) r

-- what follows a term of a sum
steps_dot : {from to : List Token} {xs : List (Step ColumnName)} → IsSteps from to xs → EndsExpr to → Stops (s.Mark marks.Dot) from
steps_dot b z = steps_end b (s.Mark marks.Dot) (differs (s.Mark marks.Plus) (s.Mark marks.Dot) refl) (differs (s.Mark marks.Minus) (s.Mark marks.Dot) refl) z.dot

steps_times : {from to : List Token} {xs : List (Step ColumnName)} → IsSteps from to xs → EndsExpr to → Stops (s.Mark marks.Times) from
steps_times b z = steps_end b (s.Mark marks.Times) (differs (s.Mark marks.Plus) (s.Mark marks.Times) refl) (differs (s.Mark marks.Minus) (s.Mark marks.Times) refl) z.times

factors_dot : {from to : List Token} {xs : List (Expr ColumnName)} → IsFactors from to xs → Stops (s.Mark marks.Dot) to → Stops (s.Mark marks.Dot) from
factors_dot b n = factors_end b (s.Mark marks.Dot) (differs (s.Mark marks.Times) (s.Mark marks.Dot) refl) n

mutual
  pub expr_read : {from to : List Token} {x : Expr ColumnName} → IsExpr from to x → (d : ℕ) → HasRoom d from → EndsExpr to → expr_at (suc d) from ≡ Some (x, to)
  expr_read (expr {from = from} {mid = mid} {to = to} {x = x} {xs = xs} f b) d h z =
      sum_goes d from mid to x xs
      (term_read f d h (steps_dot b z) (steps_times b z))
      (more_goes adding_at (step_at (expr_at d)) [] xs mid to (steps_read b d (length mid) (term_within f d h) (omega arith) z))

  pub steps_read : {from to : List Token} {xs : List (Step ColumnName)} → IsSteps from to xs → (d k : ℕ) → HasRoom d from → length from ≤ k → EndsExpr to → chain_at adding_at (step_at (expr_at d)) k from ≡ Some (xs, to)
  steps_read (no_step {to = to}) d k h l z = turn_done adding_at (step_at (expr_at d)) k to (adding_stops to z.plus z.minus)
  steps_read (plus f b) d zero h l z = absurd (omega arith)
  steps_read (plus {from = from} {mid = mid} {to = to} {x = x} {xs = xs} f b) d (suc k) h l z =
      let lt = term_shorter f in
      step_turn d k a.Plus from mid to x xs (term_read f d h (steps_dot b z) (steps_times b z)) (steps_read b d k (term_within f d h) (omega arith) z)
  steps_read (minus f b) d zero h l z = absurd (omega arith)
  steps_read (minus {from = from} {mid = mid} {to = to} {x = x} {xs = xs} f b) d (suc k) h l z =
      let lt = term_shorter f in
      step_turn d k a.Minus from mid to x xs (term_read f d h (steps_dot b z) (steps_times b z)) (steps_read b d k (term_within f d h) (omega arith) z)

  pub term_read : {from to : List Token} {x : Expr ColumnName} → IsTerm from to x → (d : ℕ) → HasRoom d from → Stops (s.Mark marks.Dot) to → Stops (s.Mark marks.Times) to → term_at (expr_at d) from ≡ Some (x, to)
  term_read (term {from = from} {mid = mid} {to = to} {x = x} {xs = xs} f b) d h n m =
      term_goes (expr_at d) from mid to x xs (factor_read f d h (factors_dot b n))
      (more_goes (after (s.Mark marks.Times)) (factor_at (expr_at d)) (x ∷ []) xs mid to (factors_read b d (length mid) (factor_within f d h) (omega arith) n m))

  pub factors_read : {from to : List Token} {xs : List (Expr ColumnName)} → IsFactors from to xs → (d k : ℕ) → HasRoom d from → length from ≤ k → Stops (s.Mark marks.Dot) to → Stops (s.Mark marks.Times) to → chain_at (after (s.Mark marks.Times)) (factor_at (expr_at d)) k from ≡ Some (xs, to)
  factors_read (no_factor {to = to}) d k h l n m = turn_done (after (s.Mark marks.Times)) (factor_at (expr_at d)) k to m
  factors_read (times f b) d zero h l n m = absurd (omega arith)
  factors_read (times {from = from} {mid = mid} {to = to} {x = x} {xs = xs} f b) d (suc k) h l n m =
      let lt = factor_shorter f in
      sign_goes (s.Mark marks.Times) (factor_at (expr_at d)) k from mid to x xs (factor_read f d h (factors_dot b n)) (factors_read b d k (factor_within f d h) (omega arith) n m)

  pub factor_read : {from to : List Token} {x : Expr ColumnName} → IsFactor from to x → (d : ℕ) → HasRoom d from → Stops (s.Mark marks.Dot) to → factor_at (expr_at d) from ≡ Some (x, to)
  factor_read (plain {from = from} {to = to} {x = x} f) d h n =
      plain_goes (expr_at d) from to x (primary_begins f (s.Mark marks.Plus) (differs (s.Mark marks.Open) (s.Mark marks.Plus) refl)) (primary_begins f (s.Mark marks.Minus) (differs (s.Mark marks.Open) (s.Mark marks.Minus) refl)) (primary_read f d h n)
  factor_read (positive {from = from} {to = to} {x = x} f) d h n = signed_goes (expr_at d) a.Plus from to x (primary_read f d h n)
  factor_read (negative {from = from} {to = to} {x = x} f) d h n = signed_goes (expr_at d) a.Minus from to x (primary_read f d h n)

  pub primary_read : {from to : List Token} {x : Expr ColumnName} → IsPrimary from to x → (d : ℕ) → HasRoom d from → Stops (s.Mark marks.Dot) to → primary_at (expr_at d) from ≡ Some (x, to)
  primary_read (column {from = from} {to = to} {x = x} f) d h n = open_read (expr_at d) bare_primary_at from (Some (e.Column x, to)) (column_begins f (s.Mark marks.Open)) (bare_column_goes f n)
  primary_read (number {to = to} {n = k}) d h n = open_read (expr_at d) bare_primary_at (Number k ∷ to) (Some (e.Number k, to)) (number_begins k to (s.Mark marks.Open)) (bare_number_goes k to)
  primary_read (parens f) zero h n = absurd h
  primary_read (parens {from = from} {to = to} {x = x} f) (suc d) h n = parens_read (expr_at (suc d)) bare_primary_at from to x (expr_read f d h (close_ends to))
