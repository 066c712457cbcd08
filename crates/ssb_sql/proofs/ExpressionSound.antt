-- What is read as an expression is one.
use Rattle.std.proofs.Common.{◌≡◌, ℕ, zero, suc, ◌<◌, ◌≤◌, List, [], ◌∷◌, length, Some, None, refl, ap, subst, ◌∙◌, arith, inl, inr}
use Rattle.ssb_tokens.specs.declared.token.Token.{Token}
use Rattle.ssb_tokens.specs.declared.token.Token.TheVariants.{Fixed, Number}
use Rattle.ssb_tokens.specs.declared.token.Mark.{Mark}
use Rattle.ssb_tokens.specs.declared.token.Mark.TheVariants as marks
use Rattle.ssb_tokens.specs.declared.token.Sign.TheVariants as s
use Rattle.ssb_terms.specs.declared.operator.Adding.{Adding}
use Rattle.ssb_terms.specs.declared.operator.Adding.TheVariants as a
use Rattle.ssb_trees.specs.declared.expr.Expr.TheVariants as e
use Rattle.ssb_sql.specs.Expressions.{IsExpr, IsSteps, IsTerm, IsFactors, IsFactor, IsPrimary, sum_of, times_of}
use Rattle.ssb_sql.specs.Expressions.IsExpr.{expr}
use Rattle.ssb_sql.specs.Expressions.IsSteps.{no_step, plus, minus}
use Rattle.ssb_sql.specs.Expressions.IsTerm.{term}
use Rattle.ssb_sql.specs.Expressions.IsFactors.{no_factor, times}
use Rattle.ssb_sql.specs.Expressions.IsFactor.{plain, positive, negative}
use Rattle.ssb_sql.specs.Expressions.IsPrimary.{column, number, parens}
use Rattle.ssb_sql.specs.Room.{HasRoom}
use Rattle.ssb_sql.specs.Steps.{Parser, after, more_at, Shrinks}
use Rattle.ssb_sql.specs.ReadParts.{column_at}
use Rattle.ssb_sql.specs.ReadExpressions.{bare_primary_at, primary_at, adding_at, signed, factor_at, term_at, step_at, sum_at, expr_at}
use Rattle.ssb_tokens.proofs.ReadingFacts.{bind_some}
use Rattle.ssb_sql.proofs.StepFacts.{some_is, choose_some, after_is}
use Rattle.ssb_sql.proofs.Shapes.{Sound, Tame, IsChain, is_chain, spells, starts, sound_enclosed, made_sound, sound_more, shrinks}
use Rattle.ssb_sql.proofs.PartFacts.{sound_column, tame_column}
use Rattle.ssb_trees.specs.declared.expr.Step.{Step}
use Rattle.ssb_sql.specs.declared.named.ColumnName.{ColumnName}
use Rattle.ssb_trees.specs.declared.expr.Expr.{Expr}

mutual
  pub expr_shorter : {from to : List Token} {x : Expr ColumnName} → IsExpr from to x → length to < length from
  expr_shorter (expr a b) = let p = term_shorter a in let q = steps_shorter b in omega arith

  pub steps_shorter : {from to : List Token} {xs : List (Step ColumnName)} → IsSteps from to xs → length to ≤ length from
  steps_shorter no_step = omega arith
  steps_shorter (plus a b) = let p = term_shorter a in let q = steps_shorter b in omega arith
  steps_shorter (minus a b) = let p = term_shorter a in let q = steps_shorter b in omega arith

  pub term_shorter : {from to : List Token} {x : Expr ColumnName} → IsTerm from to x → length to < length from
  term_shorter (term a b) = let p = factor_shorter a in let q = factors_shorter b in omega arith

  pub factors_shorter : {from to : List Token} {xs : List (Expr ColumnName)} → IsFactors from to xs → length to ≤ length from
  factors_shorter no_factor = omega arith
  factors_shorter (times a b) = let p = factor_shorter a in let q = factors_shorter b in omega arith

  pub factor_shorter : {from to : List Token} {x : Expr ColumnName} → IsFactor from to x → length to < length from
  factor_shorter (plain a) = primary_shorter a
  factor_shorter (positive a) = let p = primary_shorter a in omega arith
  factor_shorter (negative a) = let p = primary_shorter a in omega arith

  pub primary_shorter : {from to : List Token} {x : Expr ColumnName} → IsPrimary from to x → length to < length from
  primary_shorter (column a) = tame_column.shorter a
  primary_shorter number = omega arith
  primary_shorter (parens a) = let p = expr_shorter a in omega arith

mutual
  pub expr_within : {from to : List Token} {x : Expr ColumnName} → IsExpr from to x → (d : ℕ) → HasRoom d from → HasRoom d to
  expr_within (expr a b) d h = steps_within b d (term_within a d h)

  pub steps_within : {from to : List Token} {xs : List (Step ColumnName)} → IsSteps from to xs → (d : ℕ) → HasRoom d from → HasRoom d to
  steps_within no_step d h = h
  steps_within (plus a b) d h = steps_within b d (term_within a d h)
  steps_within (minus a b) d h = steps_within b d (term_within a d h)

  pub term_within : {from to : List Token} {x : Expr ColumnName} → IsTerm from to x → (d : ℕ) → HasRoom d from → HasRoom d to
  term_within (term a b) d h = factors_within b d (factor_within a d h)

  pub factors_within : {from to : List Token} {xs : List (Expr ColumnName)} → IsFactors from to xs → (d : ℕ) → HasRoom d from → HasRoom d to
  factors_within no_factor d h = h
  factors_within (times a b) d h = factors_within b d (factor_within a d h)

  pub factor_within : {from to : List Token} {x : Expr ColumnName} → IsFactor from to x → (d : ℕ) → HasRoom d from → HasRoom d to
  factor_within (plain a) d h = primary_within a d h
  factor_within (positive a) d h = primary_within a d h
  factor_within (negative a) d h = primary_within a d h

  pub primary_within : {from to : List Token} {x : Expr ColumnName} → IsPrimary from to x → (d : ℕ) → HasRoom d from → HasRoom d to
  primary_within (column a) d h = tame_column.within a d h
  primary_within number d h = h
  primary_within (parens a) zero h = absurd h
  primary_within (parens a) (suc d) h = expr_within a d h

pub tame_expr : Tame IsExpr
tame_expr = record { shorter = λ h. expr_shorter h; within = λ h d w. expr_within h d w }

tame_factor : Tame IsFactor
tame_factor = record { shorter = λ h. factor_shorter h; within = λ h d w. factor_within h d w }

bare_primary_sound : (ts : List Token) (x : Expr ColumnName × List Token) → bare_primary_at ts ≡ Some x → IsPrimary ts x.1 x.0
unfolding bare_primary_at
bare_primary_sound (Number n ∷ ts) x q = spells IsPrimary (Number n ∷ ts) ts (e.Number n) x number q
bare_primary_sound ts x q =
    let f = bind_some (column_at ts) _ x q in
    spells IsPrimary ts f.0.1 (e.Column f.0.0) x (column (sound_column.by ts f.0 f.1)) f.2

-- the mark of a sign
abbrev pub adding_mark : Adding → Mark
adding_mark a.Plus = marks.Plus
adding_mark a.Minus = marks.Minus

adding_is : (ts : List Token) (l : Adding × List Token) → adding_at ts ≡ Some l → ts ≡ Fixed (s.Mark (adding_mark l.0)) ∷ l.1
unfolding adding_at
adding_is ts l q =
    elim (choose_some (after (s.Mark marks.Plus) ts) _ _ (Some l) q) as (λ _. ts ≡ Fixed (s.Mark (adding_mark l.0)) ∷ l.1) [
      | inl g ↦ goes a.Plus g.0 g.1 g.2
      | inr b ↦
          elim (choose_some (after (s.Mark marks.Minus) ts) _ _ (Some l) b.1) as (λ _. ts ≡ Fixed (s.Mark (adding_mark l.0)) ∷ l.1) [
            | inl g ↦ goes a.Minus g.0 g.1 g.2
            | inr g ↦ absurd cc
          ]
    ]
  where
    goes : (y : Adding) (us : List Token) → after (s.Mark (adding_mark y)) ts ≡ Some us → Some (y, us) ≡ Some l → ts ≡ Fixed (s.Mark (adding_mark l.0)) ∷ l.1
    goes y us h r = after_is (s.Mark (adding_mark y)) ts us h ∙ ap (λ z. Fixed (s.Mark (adding_mark z.0)) ∷ z.1) (some_is (y, us) l r)

adding_shorter : (ts : List Token) (l : Adding × List Token) → adding_at ts ≡ Some l → length l.1 < length ts
adding_shorter ts l q = let n : length ts ≡ suc (length l.1) = ap length (adding_is ts l q) in omega arith

-- what stands behind a sign
signed_is : (y : Adding) (us to : List Token) (x : Expr ColumnName) → IsPrimary us to x → IsFactor (Fixed (s.Mark (adding_mark y)) ∷ us) to (signed y x)
signed_is a.Plus us to x h = positive h
signed_is a.Minus us to x h = negative h

step_is : (y : Adding) (us mid to : List Token) (x : Expr ColumnName) (xs : List (Step ColumnName)) → IsTerm us mid x → IsSteps mid to xs → IsSteps (Fixed (s.Mark (adding_mark y)) ∷ us) to (record { adding = y; term = x } ∷ xs)
step_is a.Plus us mid to x xs one rest = plus one rest
step_is a.Minus us mid to x xs one rest = minus one rest

adding_nil : adding_at [] ≡ None
unfolding adding_at after
adding_nil = refl

module _ (inner : Parser (Expr ColumnName)) (h : Sound inner IsExpr) where
  primary_sound : (ts : List Token) (x : Expr ColumnName × List Token) → primary_at inner ts ≡ Some x → IsPrimary ts x.1 x.0
  primary_sound ts x q = sound_enclosed inner bare_primary_at IsExpr IsPrimary h bare_primary_sound (λ from to y a. parens a) ts x q

  factor_sound : (ts : List Token) (x : Expr ColumnName × List Token) → factor_at inner ts ≡ Some x → IsFactor ts x.1 x.0
  unfolding factor_at
  factor_sound ts x q =
      elim (choose_some (adding_at ts) _ _ (Some x) q) as (λ _. IsFactor ts x.1 x.0) [
        | inl g ↦
            let f = bind_some (primary_at inner g.0.1) _ x g.2 in
            let one = signed_is g.0.0 g.0.1 f.0.1 f.0.0 (primary_sound g.0.1 f.0 f.1) in
            spells IsFactor ts f.0.1 (signed g.0.0 f.0.0) x (starts IsFactor ts (Fixed (s.Mark (adding_mark g.0.0)) ∷ g.0.1) f.0.1 (signed g.0.0 f.0.0) (adding_is ts g.0 g.1) one) f.2
        | inr g ↦ plain (primary_sound ts x g.1)
      ]

  pub sound_factor : Sound (factor_at inner) IsFactor
  sound_factor = record { by = factor_sound }

  factors : IsChain (after (s.Mark marks.Times)) (factor_at inner) IsFactors
  factors = is_chain (s.Mark marks.Times) (factor_at inner) IsFactor IsFactors sound_factor (λ to. no_factor) (λ from mid to x xs a m. times a m)

  term_sound : (ts : List Token) (x : Expr ColumnName × List Token) → term_at inner ts ≡ Some x → IsTerm ts x.1 x.0
  unfolding term_at
  term_sound ts x q = made_sound (s.Mark marks.Times) (factor_at inner) IsFactor IsFactors IsTerm times_of sound_factor factors (λ from mid to y ys a b. term a b) ts x q

  step_sound : (l : Adding × List Token) (x : Step ColumnName × List Token) → step_at inner l ≡ Some x → (y : Expr ColumnName) × IsTerm l.1 x.1 y × (record { adding = l.0; term = y } ≡ x.0)
  unfolding step_at
  step_sound l x q =
      let f = bind_some (term_at inner l.1) _ x q in
      let same = some_is (record { adding = l.0; term = f.0.0 }, f.0.1) x f.2 in
      (f.0.0, subst (λ to. IsTerm l.1 to f.0.0) (ap (λ z. z.1) same) (term_sound l.1 f.0 f.1), ap (λ z. z.0) same)

  steps : IsChain adding_at (step_at inner) IsSteps
  steps = record {
    none = λ to. no_step;
    more = λ ts to l x xs a q m.
        let f = step_sound l x q in
        let y : Step ColumnName = record { adding = l.0; term = f.0 } in
        subst (λ y. IsSteps ts to (y ∷ xs)) f.2 (starts IsSteps ts (Fixed (s.Mark (adding_mark l.0)) ∷ l.1) to (y ∷ xs) (adding_is ts l a) (step_is l.0 l.1 x.1 to f.0 xs f.1 m));
  }

  sum_sound : (ts : List Token) (x : Expr ColumnName × List Token) → sum_at inner ts ≡ Some x → IsExpr ts x.1 x.0
  sum_sound ts x q =
      let f = bind_some (term_at inner ts) _ x q in
      let g = bind_some (more_at adding_at (step_at inner) [] f.0.1) _ x f.2 in
      let m = sound_more adding_at (step_at inner) IsSteps steps [] f.0.1 g.0 g.1 in
      let here : IsExpr ts g.0.1 (sum_of f.0.0 g.0.0) = subst (λ xs. IsExpr ts g.0.1 (sum_of f.0.0 xs)) m.2 (expr (term_sound ts f.0 f.1) m.1) in
      spells IsExpr ts g.0.1 (sum_of f.0.0 g.0.0) x here g.2

  shrinks_step : Shrinks adding_at (step_at inner)
  shrinks_step = record {
    nil = adding_nil;
    by = λ ts l x a q. let f = step_sound l x q in let p = adding_shorter ts l a in let r = term_shorter f.1 in omega arith;
  }

pub sound_expr : (d : ℕ) → Sound (expr_at d) IsExpr
unfolding expr_at
sound_expr zero = record { by = λ ts x q. absurd cc }
sound_expr (suc d) = record { by = λ ts x q. sum_sound (expr_at d) (sound_expr d) ts x q }

pub factor_shrinks : (d : ℕ) → Shrinks (after (s.Mark marks.Times)) (factor_at (expr_at d))
factor_shrinks d = shrinks (s.Mark marks.Times) (factor_at (expr_at d)) IsFactor (sound_factor (expr_at d) (sound_expr d)) tame_factor

pub step_shrinks : (d : ℕ) → Shrinks adding_at (step_at (expr_at d))
step_shrinks d = shrinks_step (expr_at d) (sound_expr d)
