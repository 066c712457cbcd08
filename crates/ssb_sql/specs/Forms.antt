-- What the lines of the grammar share: lists, columns, literals and operands.
-- Source: SQL-92, 6.4 <column reference>, 5.3 <literal> and 7.1 <row value constructor>, cut down.
-- `R from to x`: the tokens `from` begin with an R that spells x, and then come the tokens `to`.
use Rattle.std.specs.Prelude.{ℕ, ◌≤◌, List, [], ◌∷◌, Some, None, pos, neg_ℤ}
use Rattle.ssb_tokens.specs.declared.token.Token.{Token}
use Rattle.ssb_tokens.specs.declared.token.Token.TheVariants.{Fixed, Name, Number, Text}
use Rattle.ssb_terms.specs.declared.keyword.Keyword.{Keyword}
use Rattle.ssb_tokens.specs.declared.token.Mark.{Mark}
use Rattle.ssb_tokens.specs.declared.token.Mark.TheVariants as marks
use Rattle.ssb_tokens.specs.declared.token.Sign.TheVariants as s
use Rattle.ssb_sql.specs.declared.named.ColumnName.{ColumnName}
use Rattle.ssb_terms.specs.declared.literal.Literal.{Literal}
use Rattle.ssb_terms.specs.declared.literal.Literal.TheVariants as l
use Rattle.ssb_trees.specs.declared.operand.Operand.TheVariants as o
use Rattle.ssb_trees.specs.declared.operand.Operand.{Operand}

-- a token that is a reserved word or a mark
abbrev pub word : Keyword → Token
word k = Fixed (s.Word k)

abbrev pub mark : Mark → Token
mark m = Fixed (s.Mark m)

abbrev pub Spelling : Type 0 → Type 1
Spelling A = List Token → List Token → A → Type 0

-- {"," R}
pub data IsMore {A : Type 0} (R : Spelling A) : List Token → List Token → List A → Type 0 where
  no_more : {to : List Token} → IsMore R to to []
  comma : {from mid to : List Token} {x : A} {xs : List A} → R from mid x → IsMore R mid to xs → IsMore R (mark marks.Comma ∷ from) to (x ∷ xs)

-- R {"," R}
pub data IsList {A : Type 0} (R : Spelling A) : List Token → List Token → List A → Type 0 where
  list : {from mid to : List Token} {x : A} {xs : List A} → R from mid x → IsMore R mid to xs → IsList R from to (x ∷ xs)

-- name
pub data IsNamed : List Token → List Token → List ℕ → Type 0 where
  name : {to : List Token} {n : List ℕ} → IsNamed (Name n ∷ to) to n

-- column = name | name "." name
pub data IsColumn : List Token → List Token → ColumnName → Type 0 where
  alone : {to : List Token} {n : List ℕ} → IsColumn (Name n ∷ to) to (record { table = None; column = n })
  dotted : {to : List Token} {t n : List ℕ} → IsColumn (Name t ∷ mark marks.Dot ∷ Name n ∷ to) to (record { table = Some t; column = n })

-- literal = ["+" | "-"] number | text
pub data IsLiteral : List Token → List Token → Literal → Type 0 where
  number : {to : List Token} {n : ℕ} → n ≤ 9223372036854775807 → IsLiteral (Number n ∷ to) to (l.Number (pos n))
  positive : {to : List Token} {n : ℕ} → n ≤ 9223372036854775807 → IsLiteral (mark marks.Plus ∷ Number n ∷ to) to (l.Number (pos n))
  negative : {to : List Token} {n : ℕ} → n ≤ 9223372036854775807 → IsLiteral (mark marks.Minus ∷ Number n ∷ to) to (l.Number (neg_ℤ (pos n)))
  text : {to : List Token} {t : List ℕ} → IsLiteral (Text t ∷ to) to (l.Text t)

-- operand = column | literal, where R spells what may stand for a column
pub data IsOperand {C : Type 0} (R : Spelling C) : List Token → List Token → Operand C → Type 0 where
  column : {from to : List Token} {x : C} → R from to x → IsOperand R from to (o.Column x)
  literal : {from to : List Token} {x : Literal} → IsLiteral from to x → IsOperand R from to (o.Literal x)

-- a chain of one thing is that thing
unfoldable pub chain_of : {A : Type 0} → (List A → A) → List A → A
chain_of make [] = make []
chain_of make (x ∷ []) = x
chain_of make (x ∷ y ∷ ys) = make (x ∷ y ∷ ys)
