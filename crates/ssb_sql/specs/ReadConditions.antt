-- Reading conditions.
-- For the contracts inside this crate.
use Rattle.std.specs.Prelude.{ℕ, zero, suc, Bool, true, false, List, ◌∷◌, Option, Some, None}
use Rattle.ssb_terms.specs.declared.operator.Op.{Op}
use Rattle.ssb_terms.specs.declared.operator.Op.TheVariants as op
use Rattle.ssb_tokens.specs.declared.token.Token.{Token}
use Rattle.ssb_tokens.specs.declared.token.Token.TheVariants.{Fixed}
use Rattle.ssb_tokens.specs.declared.token.Mark.{Mark}
use Rattle.ssb_terms.specs.declared.keyword.Keyword.TheVariants as words
use Rattle.ssb_tokens.specs.declared.token.Mark.TheVariants as marks
use Rattle.ssb_tokens.specs.declared.token.Sign.TheVariants as s
use Rattle.ssb_terms.specs.declared.literal.Literal.{Literal}
use Rattle.ssb_trees.specs.declared.operand.Operand.TheVariants as o
use Rattle.ssb_trees.specs.declared.condition.Condition.TheVariants as c
use Rattle.ssb_tokens.specs.Reading.{◌>>=◌}
use Rattle.ssb_sql.specs.Steps.{Parser, choose, after, made_at, list_at, enclosed_at, parens_at}
use Rattle.ssb_sql.specs.ReadParts.{literal_at, operand_at}
use Rattle.ssb_trees.specs.Conditions.{Filter}
use Rattle.ssb_trees.specs.declared.operand.Operand.{Operand}

abbrev pub op_of : Mark → Option Op
op_of marks.Equal = Some op.Eq
op_of marks.NotEqual = Some op.Ne
op_of marks.Less = Some op.Lt
op_of marks.LessEqual = Some op.Le
op_of marks.Greater = Some op.Gt
op_of marks.GreaterEqual = Some op.Ge
op_of _ = None

-- an operator, and what follows
unfoldable pub op_at : List Token → Option (Op × List Token)
op_at (Fixed (s.Mark m) ∷ ts) = op_of m >>= λ y. Some (y, ts)
op_at _ = None

-- operand AND operand
unfoldable pub limits_at : {C : Type 0} → Parser C → Parser (Operand C × Operand C)
limits_at p ts = operand_at p ts >>= λ x. after (s.Word words.And) x.1 >>= λ rest. operand_at p rest >>= λ y. Some ((x.0, y.0), y.1)

-- "(" literal {"," literal} ")"
abbrev pub members_at : Parser (List Literal)
members_at = parens_at (list_at literal_at)

-- IN "(" literal {"," literal} ")"
unfoldable pub among_at : Parser (List Literal)
among_at ts = after (s.Word words.In) ts >>= λ rest. members_at rest

-- BETWEEN or IN, after the operand and a NOT if there is one
unfoldable pub range_at : {C : Type 0} → Parser C → Bool → Operand C → Parser (Filter C)
range_at p negated x ts =
    choose (after (s.Word words.Between) ts) (λ rest. limits_at p rest >>= λ l. Some (c.Between x l.0.0 l.0.1 negated, l.1))
    (among_at ts >>= λ ys. Some (c.In x ys.0 negated, ys.1))

-- whether a column has no value, or whether it has one
abbrev pub null_of : {C : Type 0} → Bool → Operand C → Option (Filter C)
null_of negated (o.Column x) = Some (c.IsNull (o.Column x) negated)
null_of negated (o.Literal l) = None

-- NULL, after the operand, IS and a NOT if there is one
unfoldable pub nulled_at : {C : Type 0} → Bool → Operand C → Parser (Filter C)
nulled_at negated x ts = after (s.Word words.Null) ts >>= λ to. null_of negated x >>= λ y. Some (y, to)

-- [NOT] NULL, after the operand and IS
unfoldable pub null_at : {C : Type 0} → Operand C → Parser (Filter C)
null_at x ts = choose (after (s.Word words.Not) ts) (nulled_at true x) (nulled_at false x ts)

-- an operator and an operand, or BETWEEN or IN
unfoldable pub compared_at : {C : Type 0} → Parser C → Operand C → Parser (Filter C)
compared_at p x ts =
    choose (op_at ts) (λ l. operand_at p l.1 >>= λ y. Some (c.Compare l.0 x y.0, y.1))
    (range_at p false x ts)

-- what follows an operand
unfoldable pub tail_at : {C : Type 0} → Parser C → Operand C → Parser (Filter C)
tail_at p x ts =
    choose (after (s.Word words.Not) ts) (range_at p true x)
    (choose (after (s.Word words.Is) ts) (null_at x)
    (compared_at p x ts))

unfoldable pub bare_at : {C : Type 0} → Parser C → Parser (Filter C)
bare_at p ts = operand_at p ts >>= λ x. tail_at p x.0 x.1

abbrev pub test_at : {C : Type 0} → Parser C → Parser (Filter C) → Parser (Filter C)
test_at p inner = enclosed_at inner (bare_at p)

unfoldable pub neg_at : {C : Type 0} → Parser C → Parser (Filter C) → Parser (Filter C)
neg_at p inner ts = choose (after (s.Word words.Not) ts) (λ rest. test_at p inner rest >>= λ x. Some (c.Not x.0, x.1)) (test_at p inner ts)

unfoldable pub conj_at : {C : Type 0} → Parser C → Parser (Filter C) → Parser (Filter C)
conj_at p inner ts = made_at c.All (s.Word words.And) (neg_at p inner) ts

abbrev pub disj_at : {C : Type 0} → Parser C → Parser (Filter C) → Parser (Filter C)
disj_at p inner = made_at c.Any (s.Word words.Or) (conj_at p inner)

-- a condition with fewer than this many open parentheses, over what p reads with as many
unfoldable pub cond_at : {C : Type 0} → (ℕ → Parser C) → ℕ → Parser (Filter C)
cond_at p zero ts = None
cond_at p (suc d) ts = disj_at (p d) (cond_at p d) ts
